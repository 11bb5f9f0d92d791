-- A symbol that no line may have is found, or there is none.
use Rattle.std.proofs.Common.{◌∙◌, false, refl, sym}
use Rattle.std.proofs.lemmas.Bool.{both_ways}
use Rattle.abnfcheck.proofs.AimLemmas.{letter_in, next_value}
use Rattle.coverlines.specs.Shortest.{may}
use Rattle.coverlines.proofs.bounds.LineBounds.has_all.Goals as goal

pub returns-then-not-has : goal.returns-then-not-has
returns-then-not-has c = (
  (λ on. absurd (both_ways false refl on)),
  (λ all. sym c.if-not-has.true ∙ (c.has.ensures ∙ letter_in (may c.args.self) c.args.word.now
      c.loop-symbol.symbol-index 0 c.loop-symbol-test.true all)),
)

pub loop-symbol-preserved : goal.loop-symbol-preserved
loop-symbol-preserved c =
    next_value (may c.args.self) c.args.word.now c.loop-symbol.symbol-index 0 c.loop-symbol-test.true
    c.loop-symbol.invariant (sym c.has.ensures ∙ c.if-not-has.false)
