use Rattle.std.proofs.Common.{◌≡◌, ◌<◌, ℕ, Some, slice_get}
use Rattle.flatgrammar.specs.ItemClosures.{dot, call_at}
use Rattle.flatgrammar.specs.Inlines.{allows_in}
use Rattle.flatgrammar.proofs.callers.find_callers.Given as goal

abbrev pub invariant-loop-node : goal.invariant-loop-node
invariant-loop-node l = (n k t m : ℕ) → n < l.node → call_at l.flat (dot n k) ≡ Some (t, m)
    → allows_in (slice_get l.callers.items t) n k
