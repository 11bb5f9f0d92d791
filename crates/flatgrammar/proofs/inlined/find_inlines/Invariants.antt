use Rattle.std.proofs.Common.{◌≡◌, ◌<◌, ◌≤◌, ℕ, None, length}
use Rattle.flatgrammar.specs.Inlines.{inlined_at, AreInlines}
use Rattle.flatgrammar.proofs.inlined.find_inlines.Given as goal

abbrev pub invariant-loop-node : goal.invariant-loop-node
invariant-loop-node l = record {
  count : length l.inlines.items ≡ length l.callers.items;
  within : l.node ≤ length l.callers.items;
  low : (t : ℕ) → t < l.node → inlined_at l.inlines.items t ≡ None;
  high : AreInlines l.flat l.inlines.items;
}

abbrev pub decreases-loop-node : goal.decreases-loop-node
decreases-loop-node l = l.node
