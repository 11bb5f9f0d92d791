use Rattle.std.proofs.Common.{◌≡◌, ℕ, List}
use Rattle.abnfread.specs.Element.{Rule}
use Rattle.rulelines.specs.MissLists.{AreLinesReported, AreOfRule}
use Rattle.rulelines.proofs.miss.lines.Misses.next.Given as goal

abbrev pub invariant-loop : goal.invariant-loop
invariant-loop l = record {
  same : l.self.prefixes.set ≡ l.fn.self.prefixes.set;
  reported : (rules : List Rule) (id : ℕ) → AreOfRule rules id l.fn.self → (ws : List (List ℕ))
      → AreLinesReported rules id l.fn.self ws → AreLinesReported rules id l.self ws;
}
