-- What can follow the symbols of a line, by an item set.
use Rattle.std.specs.Prelude.{◌↔◌, ℕ, List, IsTrue}
use Rattle.flatgrammar.specs.Flat.{Flat, Dot, at, Set, Reads}
use Rattle.flatgrammar.specs.FlatVerdicts.{IsLastSet}
use Rattle.flatgrammar.specs.Holds.{Holds}
use Rattle.flatgrammar.specs.Positions.{In}
use Rattle.flatgrammar.specs.declared.closure.DottedRule.{DottedRule}
use Rattle.lazydfa.specs.declared.expected.Expected.{Expected}

-- dotted rules of the items of set n: all that read a symbol, and no others than of that set
pub record AreReadersAt (flat : Flat) (x : List ℕ) (n : ℕ) (dots : List DottedRule) : Type 0 where
  pub held : (s : DottedRule) → In s dots → (i : ℕ) × Holds flat x n (at s.node s.step) i
  pub all : (s : DottedRule) (i : ℕ) (set : Set) (r : Dot) → Holds flat x n (at s.node s.step) i
      → Reads flat (at s.node s.step) set r → In s dots

-- the last set with an item, its dotted rules that read, and whether it holds the augmented start's end with origin 0
pub record IsExpected (flat : Flat) (x : List ℕ) (reported : Expected) : Type 0 where
  pub last : IsLastSet flat x reported.after
  pub readers : AreReadersAt flat x reported.after reported.dots.items
  pub end : IsTrue reported.ends ↔ Holds flat x reported.after (at flat.start 1) 0
