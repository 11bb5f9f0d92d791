use Rattle.std.proofs.Common.{◌≡◌, ℕ, true, false, List, length, get_or}
use Rattle.pegnodes.specs.KeyMarks.{AskedOnce}
use Rattle.pegnodes.specs.KeyNeeds.{AreKnown, AreSingles}
use Rattle.pegnodes.specs.Nodes.{shapes_of}
use Rattle.pegnodes.proofs.keys.node_keys.Given as goal

abbrev pub invariant-loop-m : goal.invariant-loop-m
invariant-loop-m l = record {
  count : length l.keys.items ≡ l.m;
  free : (start : ℕ) (bodies : List ℕ) → AreKnown start (shapes_of l.nodes) bodies l.root l.namers
      → AreSingles start (shapes_of l.nodes) bodies l.singles → (m : ℕ) → get_or l.keys.items m true ≡ false →
      AskedOnce start (shapes_of l.nodes) bodies m;
}
