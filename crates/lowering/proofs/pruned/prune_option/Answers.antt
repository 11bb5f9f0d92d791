use Rattle.abnfread.proofs.ElementLemmas.{element-Concat, element-Opt}
use Rattle.lowering.specs.Pruned.{keep_opt, empty_opt}
use Rattle.lowering.proofs.pruned.prune_option.Goals as goal

pub returns-in_ok-operand-in-Some : goal.returns-in_ok-operand-in-Some
returns-in_ok-operand-in-Some c test rules el left = rw (element-Opt, c.in_ok-operand-in-Some.ensures.ok)
    (keep_opt (rw c.in-Some.is at left))

pub returns-in-None : goal.returns-in-None
returns-in-None c test rules el left = rw (element-Concat, c.new-in-None.ensures.items)
    (empty_opt (rw c.in-None.is at left))
