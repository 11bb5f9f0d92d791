-- The ids so far.
use Rattle.std.proofs.Common.{ℕ, Contains}
use Rattle.coverlines.specs.NeededLines.{HasWord}
use Rattle.coverlines.proofs.needed.ids_with.Given as goal

abbrev pub invariant-loop-one : goal.invariant-loop-one
invariant-loop-one l = (id : ℕ) → Contains l.ids.items id → HasWord l.named l.word id
