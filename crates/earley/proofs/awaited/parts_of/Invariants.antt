use Rattle.std.proofs.Common.{take}
use Rattle.earley.specs.OldDots.{ArePartsOf}
use Rattle.earley.proofs.awaited.parts_of.Given as goal

abbrev pub invariant-loop-dot : goal.invariant-loop-dot
invariant-loop-dot l = ArePartsOf l.tables (take l.dot-index l.dots) l.parts.items
