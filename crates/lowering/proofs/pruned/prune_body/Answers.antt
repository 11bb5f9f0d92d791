use Rattle.abnfread.proofs.ElementLemmas.{element-Prose}
use Rattle.lowering.specs.Pruned.{left_body, no_body}
use Rattle.lowering.proofs.pruned.prune_body.Goals as goal

pub returns-in-Some : goal.returns-in-Some
returns-in-Some c = left_body (rw c.in-Some.is at c.in_ok-left.ensures)

pub returns-in-None : goal.returns-in-None
returns-in-None c = rw (element-Prose, c.new.ensures.items) (no_body (rw c.in-None.is at c.in_ok-left.ensures))
