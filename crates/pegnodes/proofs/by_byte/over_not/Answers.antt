use Rattle.pegnodes.specs.Nodes.{Not}
use Rattle.pegnodes.proofs.DecidesLemmas.{verdict_lifted, not_takes_by, not_stays_by, not_fails_by}
use Rattle.pegnodes.proofs.by_byte.over_not.Goals as goal
use Rattle.pegnodes.proofs.by_byte.over_not.Goals.{in-Takes, in-Stays, in-Fails}

pub returns : goal.returns
returns c = elim c.match-operand.branch [
  | in-Takes w ↦ verdict_lifted Not c.args.operand _ _ _ c.summed.result w.in-Takes.is w.verdict-is
      not_takes_by c.summed.ensures
  | in-Stays w ↦ verdict_lifted Not c.args.operand _ _ _ c.summed.result w.in-Stays.is w.verdict-is
      not_stays_by c.summed.ensures
  | in-Fails w ↦ verdict_lifted Not c.args.operand _ _ _ c.summed.result w.in-Fails.is w.verdict-is
      not_fails_by c.summed.ensures
]
