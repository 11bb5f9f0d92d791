-- The marks and the hints that are left, after one more member.
use Rattle.std.proofs.Common.{arith}
use Rattle.std.proofs.lemmas.Grind.{common_steps}
use Rattle.pegexplain.proofs.hints.hints.+hinting.Goals as goal

pub add_member_hints-loop-member-preserved : goal.add_member_hints-loop-member-preserved
add_member_hints-loop-member-preserved t c = (grind (arith, common_steps), grind (arith, common_steps))

pub add_alternative_hints-loop-alternative-preserved : goal.add_alternative_hints-loop-alternative-preserved
add_alternative_hints-loop-alternative-preserved t c = (
  c.in_ok-push_alternative.ensures.indexed c.loop-alternative.invariant.0,
  grind (arith, common_steps),
  grind (arith, common_steps),
)
