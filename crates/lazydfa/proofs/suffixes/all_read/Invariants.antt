use Rattle.std.proofs.Common.{ℕ, ◌<◌}
use Rattle.std.specs.Prelude.{◌≡◌, slice_get, Some}
use Rattle.lazydfa.specs.Conts.{TopReads, stack_of}
use Rattle.lazydfa.proofs.suffixes.all_read.Given as goal

abbrev pub invariant-loop-id : goal.invariant-loop-id
invariant-loop-id l = (k id : ℕ) → k < l.id-index → slice_get l.ids k ≡ Some id
    → TopReads l.tables (stack_of l.conts.items.items id)
