use Rattle.std.proofs.Common.{◌≡◌, take}
use Rattle.flatgrammar.specs.Ways.{set_all}
use Rattle.flatgrammar.proofs.targets.set_all.Given as goal

abbrev pub invariant-loop-p : goal.invariant-loop-p
invariant-loop-p l = l.ways ≡ set_all (take l.p-index l.path) l.way l.initial.ways
