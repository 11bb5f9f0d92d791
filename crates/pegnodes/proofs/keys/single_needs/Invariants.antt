use Rattle.std.proofs.Common.{◌≡◌, ◌<◌, ℕ, List, [], length, get_or, Contains}
use Rattle.fixpoint.specs.Demands.{demands_of, row_of, One}
use Rattle.pegnodes.specs.KeyNeeds.{AreKnown, AreJustified}
use Rattle.pegnodes.specs.Nodes.{shapes_of}
use Rattle.pegnodes.proofs.keys.single_needs.Given as goal

abbrev pub invariant-loop-m : goal.invariant-loop-m
invariant-loop-m l = record {
  count : length l.needs.items ≡ l.m;
  within : (m a : ℕ) → Contains (row_of (get_or (demands_of l.needs.items) m (One []))) a → a < length l.nodes;
  justified : (start : ℕ) (bodies : List ℕ) → AreKnown start (shapes_of l.nodes) bodies l.root l.namers
      → AreJustified start (shapes_of l.nodes) bodies (demands_of l.needs.items);
}
