use Rattle.std.proofs.Common.{arith}
use Rattle.lazydfa.proofs.run.step_to.Goals as goal

pub returns-in-Some : goal.returns-in-Some
returns-in-Some c = let e = c.in-Some.ensures in omega (arith, e)
