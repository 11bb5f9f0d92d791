use Rattle.std.proofs.Common.{◌≡◌, List, ℕ, arith, subst, sym}
use Rattle.std.specs.List.{prefix_len}
use Rattle.std.proofs.lemmas.List.{take_rest}
use Rattle.pegnodes.specs.Templates.{Other, is_word}
use Rattle.pegmatch.specs.FirstPieces.{IsFirstPiece}
use Rattle.pegmatch.proofs.FirstPieceLemmas.{first_other, first_word}
use Rattle.pegmatch.proofs.escapes.first_piece.Goals as goal

pub returns-then-size-gt0 : goal.returns-then-size-gt0
returns-then-size-gt0 c = first_word c.args.text.now _ _ c.word_size-size.result c.word_size-size.ensures.size
    c.if-size-gt0.true c.word_size-size.ensures.within c.split_at.ensures.front c.split_at.ensures.back

pub returns : goal.returns
returns c =
    let none : prefix_len is_word c.args.text.now ≡ 0 = omega (arith, c.word_size-size.ensures.size) in
    let byte = c.front_byte-byte.result in
    subst (λ (rest : List ℕ). IsFirstPiece c.args.text.now (Other byte.0) rest)
    (sym (take_rest c.in_ok-first.tail.now byte.1))
    (first_other c.args.text.now c.in_ok-first.tail.now c.in_ok-first.first.now byte.0 byte.1
    c.in_ok-first.ensures.cases.0 none c.front_byte-byte.ensures.value)
