-- The leaves that are left, after one more member.
use Rattle.std.proofs.Common.{arith}
use Rattle.std.proofs.lemmas.Grind.{common_steps}
use Rattle.pegexplain.proofs.hints.leaves.+gathering.Goals as goal

pub add_member_leaves-loop-member-preserved : goal.add_member_leaves-loop-member-preserved
add_member_leaves-loop-member-preserved t c = (grind (arith, common_steps), grind (arith, common_steps))

pub add_alternative_leaves-loop-alternative-preserved : goal.add_alternative_leaves-loop-alternative-preserved
add_alternative_leaves-loop-alternative-preserved t c = (
  grind (arith, common_steps),
  grind (arith, common_steps),
  grind (arith, common_steps),
)
