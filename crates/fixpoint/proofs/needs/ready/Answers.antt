use Rattle.fixpoint.proofs.ReportedLemmas as t
use Rattle.fixpoint.proofs.needs.ready.Goals as goal
use Rattle.fixpoint.proofs.needs.ready.Goals.{then-left-n-eq0+in_ok-push, else-left-n-eq0}

pub loop-n-preserved : goal.loop-n-preserved
loop-n-preserved c = elim c.if-left-n-eq0.branch [
  | then-left-n-eq0+in_ok-push w ↦ rw (
    w.order-is,
    w.in_ok-push.ensures.items,
  ) (t.ready_in _ _ _ c.loop-n-test.true c.loop-n.invariant w.if-left-n-eq0.true)
  | else-left-n-eq0 w ↦ rw w.order-is (t.ready_out _ _ _ c.loop-n-test.true c.loop-n.invariant w.if-left-n-eq0.false)
]
