use Rattle.std.proofs.Common.{ℕ, suc, get_or, None, drop, subst, arith}
use Rattle.std.proofs.lemmas.Option.{slice_get-get_or, slice_get_within}
use Rattle.fixpoint.specs.NumberMarks.{IsMarked}
use Rattle.pegnodes.specs.Predictive.{of_alternatives}
use Rattle.pegnodes.specs.SettledNeeds.{IsSure}
use Rattle.pegnodes.proofs.SettledLemmas.{elements_more, rest_after}
use Rattle.pegnodes.proofs.settled.are_alternatives_sure.Goals as goal

pub loop-i-preserved : goal.loop-i-preserved
loop-i-preserved c = elements_more
    (λ (j m : ℕ). IsMarked c.args.late.now m
    → IsSure (of_alternatives (λ k. get_or c.args.row.now k None) (drop (suc j) c.args.alternatives.now)))
    c.args.alternatives.now c.loop-i.i (get_or c.args.alternatives.now c.loop-i.i 0)
    (slice_get-get_or c.args.alternatives.now c.loop-i.i 0 c.loop-i-test.true) c.loop-i.invariant
    (λ marked. subst IsSure
    (rest_after (of_alternatives (λ k. get_or c.args.row.now k None)) c.args.alternatives.now c.loop-i.i
    c.alternatives_verdict.result c.alternatives_verdict.ensures)
    (c.is_sure_after.ensures c.if-not-is_sure_after.false marked))

pub returns : goal.returns
returns c = λ yes i m at.
    let low = slice_get_within c.args.alternatives.now i m at in
    let all = c.loop-i-test.false in
    c.loop-i.invariant i m (omega (arith, low, all)) at
