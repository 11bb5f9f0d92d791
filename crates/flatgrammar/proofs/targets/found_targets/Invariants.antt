use Rattle.std.proofs.Common.{◌≡◌, map, take}
use Rattle.flatgrammar.specs.Ways.{target_of}
use Rattle.flatgrammar.proofs.targets.found_targets.Given as goal

abbrev pub invariant-loop-way : goal.invariant-loop-way
invariant-loop-way l = l.targets.items ≡ map target_of (take l.way-index l.ways)
