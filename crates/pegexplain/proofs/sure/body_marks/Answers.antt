use Rattle.std.proofs.Common.{arith}
use Rattle.std.proofs.lemmas.Grind.{common_steps}
use Rattle.fixpoint.proofs.RowsOfLemmas as t
use Rattle.pegexplain.proofs.sure.body_marks.Goals as goal

pub bounds-marks-body : goal.bounds-marks-body
bounds-marks-body c = t.within_at _ _ _ c.requires c.loop-body-test.true

pub loop-body-preserved : goal.loop-body-preserved
loop-body-preserved c = grind (arith, common_steps)

pub returns : goal.returns
returns c = grind (arith, common_steps)
