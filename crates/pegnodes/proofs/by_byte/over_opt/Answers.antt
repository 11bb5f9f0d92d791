use Rattle.pegnodes.specs.Nodes.{Opt}
use Rattle.pegnodes.proofs.DecidesLemmas.{verdict_lifted, opt_takes_by, opt_stays_by, opt_fails_by}
use Rattle.pegnodes.proofs.by_byte.over_opt.Goals as goal
use Rattle.pegnodes.proofs.by_byte.over_opt.Goals.{in-Takes, in-Stays, in-Fails}

pub returns : goal.returns
returns c = elim c.match-operand.branch [
  | in-Takes w ↦ verdict_lifted Opt c.args.operand _ _ _ c.summed.result w.in-Takes.is w.verdict-is
      opt_takes_by c.summed.ensures
  | in-Stays w ↦ verdict_lifted Opt c.args.operand _ _ _ c.summed.result w.in-Stays.is w.verdict-is
      opt_stays_by c.summed.ensures
  | in-Fails w ↦ verdict_lifted Opt c.args.operand _ _ _ c.summed.result w.in-Fails.is w.verdict-is
      opt_fails_by c.summed.ensures
]
