use Rattle.std.proofs.Common.{arith, subst, Contains}
use Rattle.std.proofs.lemmas.Result.{IfOk-weaker}
use Rattle.fixpoint.specs.NumberMarks.{AreMarksOf}
use Rattle.fixpoint.proofs.LeastLemmas as m
use Rattle.fixpoint.proofs.RowsOfLemmas as t
use Rattle.fixpoint.proofs.needs.least.Goals as goal

pub marks_of-requires : goal.marks_of-requires
marks_of-requires c = λ k h.
    let lt = c.in_ok-order.ensures.within k (subst (λ v. Contains v k) c.deref.ensures.value h) in
    let l = t.length-demands c.args.needs.now in
    omega (arith, lt, l)

pub returns-clause-marks : goal.returns-clause-marks
returns-clause-marks c = IfOk-weaker c.marks_of.result _ _
    (λ marks are. m.marks_of_those _ _ c.in_ok-order.ensures _
    (subst (λ v. AreMarksOf v marks.items) c.deref.ensures.value are)) c.marks_of.ensures.marks
