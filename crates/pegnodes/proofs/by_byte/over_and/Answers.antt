use Rattle.pegnodes.specs.Nodes.{And}
use Rattle.pegnodes.proofs.DecidesLemmas.{verdict_lifted, and_takes_by, and_stays_by, and_fails_by}
use Rattle.pegnodes.proofs.by_byte.over_and.Goals as goal
use Rattle.pegnodes.proofs.by_byte.over_and.Goals.{in-Takes, in-Stays, in-Fails}

pub returns : goal.returns
returns c = elim c.match-operand.branch [
  | in-Takes w ↦ verdict_lifted And c.args.operand _ _ _ c.summed.result w.in-Takes.is w.verdict-is
      and_takes_by c.summed.ensures
  | in-Stays w ↦ verdict_lifted And c.args.operand _ _ _ c.summed.result w.in-Stays.is w.verdict-is
      and_stays_by c.summed.ensures
  | in-Fails w ↦ verdict_lifted And c.args.operand _ _ _ c.summed.result w.in-Fails.is w.verdict-is
      and_fails_by c.summed.ensures
]
