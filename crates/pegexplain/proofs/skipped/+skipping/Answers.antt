-- The members and alternatives that are left, after one more.
use Rattle.std.proofs.Common.{arith}
use Rattle.std.proofs.lemmas.Grind.{common_steps}
use Rattle.pegexplain.proofs.skipped.+skipping.Goals as goal

pub skipped_in_one-returns-in-Some : goal.skipped_in_one-returns-in-Some
skipped_in_one-returns-in-Some t c = grind (arith, common_steps)

pub skipped_in_one-loop-alternative-preserved : goal.skipped_in_one-loop-alternative-preserved
skipped_in_one-loop-alternative-preserved t c = grind (arith, common_steps)

pub skipped_in_one-returns : goal.skipped_in_one-returns
skipped_in_one-returns t c = grind (arith, common_steps)

pub skipped_members-returns-in-Some : goal.skipped_members-returns-in-Some
skipped_members-returns-in-Some t c = grind (arith, common_steps)

pub skipped_members-returns-then-not-branch : goal.skipped_members-returns-then-not-branch
skipped_members-returns-then-not-branch t c = grind (arith, common_steps)

pub skipped_members-loop-member-preserved : goal.skipped_members-loop-member-preserved
skipped_members-loop-member-preserved t c = grind (arith, common_steps)

pub skipped_members-returns : goal.skipped_members-returns
skipped_members-returns t c = grind (arith, common_steps)
