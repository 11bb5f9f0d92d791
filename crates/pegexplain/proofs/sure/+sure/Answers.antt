-- What is left of the members decides, after one more.
use Rattle.std.proofs.Common.{arith}
use Rattle.std.proofs.lemmas.Grind.{common_steps}
use Rattle.pegexplain.proofs.sure.+sure.Goals as goal

pub are_sure-returns-then-not-branch : goal.are_sure-returns-then-not-branch
are_sure-returns-then-not-branch t c = grind (arith, common_steps)

pub are_sure-loop-member-preserved : goal.are_sure-loop-member-preserved
are_sure-loop-member-preserved t c = grind (arith, common_steps)

pub are_sure-returns : goal.are_sure-returns
are_sure-returns t c = grind (arith, common_steps)

pub is_some_sure-returns-then-branch : goal.is_some_sure-returns-then-branch
is_some_sure-returns-then-branch t c = grind (arith, common_steps)

pub is_some_sure-loop-alternative-preserved : goal.is_some_sure-loop-alternative-preserved
is_some_sure-loop-alternative-preserved t c = grind (arith, common_steps)

pub is_some_sure-returns : goal.is_some_sure-returns
is_some_sure-returns t c = grind (arith, common_steps)
