-- The texts, one after another.
use Rattle.std.proofs.Common.{arith}
use Rattle.std.proofs.lemmas.Grind.{common_steps}
use Rattle.pegexplain.proofs.left_lines.push_step.Goals as goal

pub returns : goal.returns
returns c = grind (arith, common_steps)
