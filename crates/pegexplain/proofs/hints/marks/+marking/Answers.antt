-- The marks that are left, after one more member.
use Rattle.std.proofs.Common.{arith}
use Rattle.std.proofs.lemmas.Grind.{common_steps}
use Rattle.pegexplain.proofs.hints.marks.+marking.Goals as goal

pub add_all_marks-loop-member-preserved : goal.add_all_marks-loop-member-preserved
add_all_marks-loop-member-preserved t c = grind (arith, common_steps)

pub add_all_marks-returns : goal.add_all_marks-returns
add_all_marks-returns t c = grind (arith, common_steps)
