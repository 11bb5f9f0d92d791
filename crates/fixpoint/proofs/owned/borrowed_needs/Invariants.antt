use Rattle.std.proofs.Common.{◌≡◌, take}
use Rattle.fixpoint.specs.Demands.{demands_of, owned_demands_of}
use Rattle.fixpoint.proofs.owned.borrowed_needs.Given as goal

abbrev pub invariant-loop-need : goal.invariant-loop-need
invariant-loop-need l = demands_of l.borrowed.items ≡ owned_demands_of (take l.need-index l.needs)
