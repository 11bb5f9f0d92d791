use Rattle.std.proofs.Common.{take}
use Rattle.flatgrammar.specs.FlatViews.{nodes_of}
use Rattle.flatgrammar.specs.Ways.{AreFirst}
use Rattle.flatgrammar.proofs.targets.first_ways.Given as goal

abbrev pub invariant-loop-s : goal.invariant-loop-s
invariant-loop-s l = AreFirst (nodes_of (take l.s l.nodes)) l.bodies l.ways.items
