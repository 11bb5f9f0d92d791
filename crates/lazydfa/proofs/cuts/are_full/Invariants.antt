use Rattle.std.proofs.Common.{ℕ, ◌<◌, ◌≤◌, length}
use Rattle.std.specs.Prelude.{◌≡◌, slice_get, Some}
use Rattle.lazydfa.proofs.cuts.are_full.Given as goal

abbrev pub invariant-loop-id : goal.invariant-loop-id
invariant-loop-id l = (k id : ℕ) → k < l.id-index → slice_get l.ids k ≡ Some id
    → (0 < id) × (id ≤ length l.conts.items.items)
