use Rattle.std.proofs.Common.{◌≡◌, map, take}
use Rattle.flatgrammar.specs.Flat.{Exactly}
use Rattle.flatgrammar.specs.FlatViews.{set_of}
use Rattle.lowering.proofs.lower_elem.value_sets.Given as goal

abbrev pub invariant-loop-value : goal.invariant-loop-value
invariant-loop-value l = map set_of l.sets.items ≡ map Exactly (take l.value-index l.values)
