-- What the item sets of a line say of it.
use Rattle.std.specs.Prelude.{ℕ, ◌<◌, ◌≤◌, List, length}
use Rattle.flatgrammar.specs.Flat.{Flat, at}
use Rattle.flatgrammar.specs.Holds.{Holds, HasItem}
use Rattle.flatgrammar.specs.declared.verdict.Verdict.{Verdict}
use Rattle.flatgrammar.specs.declared.verdict.Verdict.TheVariants.{Yes, No}

-- the flat grammar derives the line: the set after its symbols holds the augmented start's end with origin 0
abbrev pub DerivesLine : Flat → List ℕ → Type 0
DerivesLine flat x = Holds flat x (length x) (at flat.start 1) 0

-- set n is the last one with an item; nothing is said of set 0
pub record IsLastSet (flat : Flat) (x : List ℕ) (n : ℕ) : Type 0 where
  pub within : n ≤ length x
  pub item : 0 < n → HasItem flat x n
  pub last : (m : ℕ) → n < m → m ≤ length x → HasItem flat x m → ⊥

-- yes: the flat grammar derives the line; no: it does not, and set n is the last one with an item
abbrev pub IsFlatVerdict : Flat → List ℕ → Verdict → Type 0
IsFlatVerdict flat x Yes = DerivesLine flat x
IsFlatVerdict flat x (No n) = (DerivesLine flat x → ⊥) × IsLastSet flat x n
