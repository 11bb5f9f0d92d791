use Rattle.std.proofs.Common.{◌≡◌, ◌+◌, ◌∙◌, ◌||◌, Bool, true, false, ap, arith, drop, length, sym, take}
use Rattle.std.proofs.lemmas.List.{length-drop}
use Rattle.rfcvalues.specs.HexWords.{has_hex_word, is_hex_word}
use Rattle.rfcvalues.proofs.HexWordLemmas.{hex-last, hex-more}
use Rattle.rfcvalues.proofs.hex.has_hex_word.Goals as goal

pub loop-size-preserved : goal.loop-size-preserved
loop-size-preserved c =
    let rest = c.loop-size.rest.now in
    let size = c.loop-size.size in
    let more = hex-more rest size c.loop-size.invariant.first c.loop-size-test.true in
    let no : is_hex_word (take size rest) ≡ false =
    ap is_hex_word (sym c.items_before.ensures) ∙ sym c.is_hex_word.ensures ∙ c.if-is_hex_word.false in
    record {
      first = c.word_size-size-in-loop-size.ensures.size;
      same = ap has_hex_word c.items_after-rest.ensures
          ∙ sym (more ∙ ap (λ (b : Bool). b || has_hex_word (drop (size + 1) rest)) no) ∙ c.loop-size.invariant.same;
    }

pub loop-size-smaller : goal.loop-size-smaller
loop-size-smaller c =
    let rest = c.loop-size.rest.now in
    let size = c.loop-size.size in
    omega (arith, ap length c.items_after-rest.ensures, length-drop (size + 1) rest, c.loop-size-test.true)

pub returns-then-is_hex_word : goal.returns-then-is_hex_word
returns-then-is_hex_word c =
    let rest = c.loop-size.rest.now in
    let size = c.loop-size.size in
    let more = hex-more rest size c.loop-size.invariant.first c.loop-size-test.true in
    let yes : is_hex_word (take size rest) ≡ true =
    ap is_hex_word (sym c.items_before.ensures) ∙ sym c.is_hex_word.ensures ∙ c.if-is_hex_word.true in
    sym (sym c.loop-size.invariant.same ∙ more ∙ ap (λ (b : Bool). b || has_hex_word (drop (size + 1) rest)) yes)

pub returns : goal.returns
returns c =
    c.is_hex_word-2.ensures
    ∙ sym (hex-last c.loop-size.rest.now c.loop-size.size c.loop-size.invariant.first c.loop-size-test.false)
    ∙ c.loop-size.invariant.same
