use Rattle.std.proofs.Common.{◌≡◌, ℕ, ◌<◌}
use Rattle.std.specs.Prelude.{slice_get, Some, Contains}
use Rattle.lazydfa.proofs.cuts.are_among.Given as goal

abbrev pub invariant-loop-id : goal.invariant-loop-id
invariant-loop-id l = (k id : ℕ) → k < l.id-index → slice_get l.ids k ≡ Some id → Contains l.others id
