-- What is left of the members decides, after one more.
use Rattle.std.proofs.Common.{arith}
use Rattle.std.proofs.lemmas.Grind.{common_steps}
use Rattle.pegexplain.proofs.nulls.+nulls.Goals as goal

pub are_nullable-returns-then-not-branch : goal.are_nullable-returns-then-not-branch
are_nullable-returns-then-not-branch t c = grind (arith, common_steps)

pub are_nullable-loop-member-preserved : goal.are_nullable-loop-member-preserved
are_nullable-loop-member-preserved t c = grind (arith, common_steps)

pub are_nullable-returns : goal.are_nullable-returns
are_nullable-returns t c = grind (arith, common_steps)

pub is_some_nullable-returns-then-branch : goal.is_some_nullable-returns-then-branch
is_some_nullable-returns-then-branch t c = grind (arith, common_steps)

pub is_some_nullable-loop-alternative-preserved : goal.is_some_nullable-loop-alternative-preserved
is_some_nullable-loop-alternative-preserved t c = grind (arith, common_steps)

pub is_some_nullable-returns : goal.is_some_nullable-returns
is_some_nullable-returns t c = grind (arith, common_steps)
