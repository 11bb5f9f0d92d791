-- The uses in one more member, and those in all.
use Rattle.std.proofs.Common.{arith}
use Rattle.std.proofs.lemmas.Grind.{common_steps}
use Rattle.pegexplain.proofs.left_uses.+using.Goals as goal

pub add_alternative_uses-returns : goal.add_alternative_uses-returns
add_alternative_uses-returns t c = grind (arith, common_steps)

pub add_member_uses-loop-member-preserved : goal.add_member_uses-loop-member-preserved
add_member_uses-loop-member-preserved t c = grind (arith, common_steps)

pub add_member_uses-returns : goal.add_member_uses-returns
add_member_uses-returns t c = grind (arith, common_steps)
