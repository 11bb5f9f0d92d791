use Rattle.std.proofs.Common.{arith}
use Rattle.fixpoint.proofs.ReportedLemmas as t
use Rattle.fixpoint.proofs.needs.lower.Goals as goal
use Rattle.fixpoint.proofs.needs.lower.Goals.{then-before-gt0, else-before-gt0}

pub returns-in_ok-push : goal.returns-in_ok-push
returns-in_ok-push c = elim c.if-before-gt0.branch [
  | then-before-gt0 w ↦ rw (
    w.left-is,
    c.in_ok-push.ensures.items,
  ) (t.reported_if_last _ _ _ c.requires.within c.requires.queue c.if-before-eq1.true)
  | else-before-gt0 w ↦ let e = c.if-before-eq1.true in let z = w.if-before-gt0.false in absurd (omega (arith, e, z))
]

pub returns-else-before-eq1 : goal.returns-else-before-eq1
returns-else-before-eq1 c = elim c.if-before-gt0.branch [
  | then-before-gt0 w ↦ rw w.left-is
      (t.reported_if_more _ _ _ c.requires.within c.requires.queue w.if-before-gt0.true c.if-before-eq1.false)
  | else-before-gt0 w ↦ rw w.left-is (t.reported_if_done _ _ _ c.requires.within c.requires.queue w.if-before-gt0.false)
]
