use Rattle.std.proofs.Common.{◌≡◌, ◌∙◌, ℕ, suc, get_or, None, Some, drop}
use Rattle.std.proofs.lemmas.Option.{slice_get-get_or}
use Rattle.fixpoint.specs.NumberMarks.{IsMarked}
use Rattle.pegnodes.specs.declared.by_byte.ByteVerdict.TheVariants.{Stays}
use Rattle.pegnodes.specs.Predictive.{of_alternatives}
use Rattle.pegnodes.proofs.SettledLemmas.{elements_more, rest_after}
use Rattle.pegnodes.proofs.settled.ends_late.Goals as goal

pub loop-i-preserved : goal.loop-i-preserved
loop-i-preserved c = elements_more
    (λ (j m : ℕ). IsMarked c.args.late.now m
    → of_alternatives (λ k. get_or c.args.row.now k None) (drop (suc j) c.args.alternatives.now) ≡ Some Stays → ⊥)
    c.args.alternatives.now c.loop-i.i (get_or c.args.alternatives.now c.loop-i.i 0)
    (slice_get-get_or c.args.alternatives.now c.loop-i.i 0 c.loop-i-test.true) c.loop-i.invariant
    (λ marked stays. c.is_marked_before.ensures c.if-is_marked_before.false marked
    (rest_after (of_alternatives (λ k. get_or c.args.row.now k None)) c.args.alternatives.now c.loop-i.i
    c.alternatives_verdict.result c.alternatives_verdict.ensures ∙ stays))
