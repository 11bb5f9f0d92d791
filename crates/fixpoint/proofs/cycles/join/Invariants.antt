use Rattle.std.proofs.Common.{length}
use Rattle.fixpoint.specs.Way.{Drops}
use Rattle.fixpoint.proofs.cycles.join.Given as goal

abbrev pub invariant-loop-part : goal.invariant-loop-part
invariant-loop-part l = Drops l.position l.initial.parts.items l.parts.items

abbrev pub decreases-loop-part : goal.decreases-loop-part
decreases-loop-part l = length l.parts.items
