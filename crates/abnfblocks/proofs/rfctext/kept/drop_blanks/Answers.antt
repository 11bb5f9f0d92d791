use Rattle.std.proofs.Common.{◌≡◌, ℕ, ◌+◌, ◌-◌, List, length, map, take, ap, arith, ◌∙◌, sym}
use Rattle.std.proofs.lemmas.List.{take-map, length-map}
use Rattle.std.specs.List.{suffix_len}
use Rattle.abnfblocks.specs.KeptSteps.{is_blank_kind, cut_blanks}
use Rattle.abnfblocks.specs.TextLines.{NumberedLine, numbered}
use Rattle.abnfblocks.specs.declared.rfctext.text_line.TextLine.{TextLine}
use Rattle.abnfblocks.proofs.rfctext.kept.drop_blanks.Goals as goal

cut-lines : (lines shown left : List TextLine) (n : ℕ) → shown ≡ lines → left ≡ take n lines
    → n + suffix_len (λ (line : NumberedLine). is_blank_kind line.kind) (map numbered shown) ≡ length shown
    → map numbered left ≡ cut_blanks (map numbered lines)
cut-lines lines shown left n read e found =
    let size : n + suffix_len (λ (line : NumberedLine). is_blank_kind line.kind) (map numbered lines) ≡ length lines =
    rw read at found in
    let same : n ≡ length (map numbered lines)
    - suffix_len (λ (line : NumberedLine). is_blank_kind line.kind) (map numbered lines) =
    omega (arith, length-map lines numbered) in
    ap (λ (xs : List TextLine). map numbered xs) e ∙ sym (take-map numbered n lines)
    ∙ ap (λ (k : ℕ). take k (map numbered lines)) same

pub returns : goal.returns
returns c = cut-lines c.args.kept.now.items c.deref.result.now _ _ c.deref.ensures.value
    c.truncate.ensures.items c.bare_len-size.ensures
