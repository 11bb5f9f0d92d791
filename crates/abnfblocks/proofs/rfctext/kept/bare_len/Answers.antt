use Rattle.std.proofs.Common.{◌≡◌, ℕ, ◌+◌, ◌-◌, ◌<◌, ◌≤◌, true, false, List, length, map, take, get_or, arith, ◌∙◌}
use Rattle.std.proofs.Common.{Bool, ap, sym}
use Rattle.std.proofs.lemmas.List.{get_or-map, length-map}
use Rattle.std.proofs.lemmas.List.Sums.{suffix_len-take_yes, suffix_len-take_no}
use Rattle.std.specs.List.{suffix_len}
use Rattle.abnfblocks.specs.KeptSteps.{is_blank_kind}
use Rattle.abnfblocks.specs.TextLines.{NumberedLine, numbered}
use Rattle.abnfblocks.specs.declared.rfctext.text_line.TextLine.{TextLine}
use Rattle.abnfblocks.proofs.rfctext.kept.bare_len.Goals as goal

abbrev is_blank_line : NumberedLine → Bool
is_blank_line line = is_blank_kind line.kind

kind-before : (lines : List TextLine) (n : ℕ) (d : TextLine) → 0 < n → n ≤ length lines →
    is_blank_line (get_or (map numbered lines) (n - 1) (numbered d)) ≡ is_blank_kind (get_or lines (n - 1) d).kind
kind-before lines n d more within =
    ap (λ (line : NumberedLine). is_blank_kind line.kind)
    (get_or-map numbered lines (n - 1) d (numbered d) (omega arith))

one-blank : (lines : List TextLine) (n : ℕ) (d : TextLine) → 0 < n → n ≤ length lines →
    is_blank_kind (get_or lines (n - 1) d).kind ≡ true →
    suffix_len is_blank_line (take n (map numbered lines))
    ≡ 1 + suffix_len is_blank_line (take (n - 1) (map numbered lines))
one-blank lines n d more within e = suffix_len-take_yes is_blank_line (map numbered lines) n (numbered d) more
    (omega (arith, length-map lines numbered)) (kind-before lines n d more within ∙ e)

no-blank : (lines : List TextLine) (n : ℕ) (d : TextLine) → 0 < n → n ≤ length lines →
    is_blank_kind (get_or lines (n - 1) d).kind ≡ false →
    suffix_len is_blank_line (take n (map numbered lines)) ≡ 0
no-blank lines n d more within e = suffix_len-take_no is_blank_line (map numbered lines) n (numbered d) more
    (omega (arith, length-map lines numbered)) (kind-before lines n d more within ∙ e)

pub loop-size-preserved : goal.loop-size-preserved
loop-size-preserved c =
    let more = one-blank c.args.lines.now c.loop-size.size _ c.loop-size-test.true c.loop-size.invariant.within
    (sym c.is_blank.ensures ∙ c.if-is_blank.true) in
    record { within = omega arith; same = omega (arith, more, c.loop-size.invariant.same) }

pub returns-else-is_blank : goal.returns-else-is_blank
returns-else-is_blank c =
    let none = no-blank c.args.lines.now c.loop-size.size _ c.loop-size-test.true c.loop-size.invariant.within
    (sym c.is_blank.ensures ∙ c.if-is_blank.false) in
    omega (arith, none, c.loop-size.invariant.same)
