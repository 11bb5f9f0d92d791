use Rattle.std.proofs.Common.{refl}
use Rattle.pegnodes.specs.Nodes.{Star}
use Rattle.pegnodes.proofs.DecidesLemmas.{verdict_lifted, star_fails_by}
use Rattle.pegnodes.proofs.by_byte.over_star.Goals as goal

pub returns-in-Fails : goal.returns-in-Fails
returns-in-Fails c =
    verdict_lifted Star c.args.operand _ _ _ c.summed.result c.in-Fails.is refl star_fails_by c.summed.ensures
