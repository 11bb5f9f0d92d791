use Rattle.std.proofs.Common.{◌≡◌, length}
use Rattle.flatgrammar.specs.Flat.{Flat}
use Rattle.flatgrammar.specs.ClassBounds.{AreParted}
use Rattle.flatgrammar.proofs.AreClassesLemmas.{AreLowTo}
use Rattle.flatgrammar.proofs.classes.low_classes.Given as goal

abbrev pub invariant-loop-number : goal.invariant-loop-number
invariant-loop-number l = (length l.low ≡ 256)
    × ((flat : Flat) → AreParted flat l.samples → AreLowTo flat l.samples l.low l.number)
