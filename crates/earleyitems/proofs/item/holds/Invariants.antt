use Rattle.std.proofs.Common.{take}
use Rattle.flatgrammar.specs.Positions.{In}
use Rattle.earleyitems.proofs.item.holds.Given as goal

abbrev pub invariant-loop-other : goal.invariant-loop-other
invariant-loop-other l = In l.item (take l.other-index l.set) → ⊥
