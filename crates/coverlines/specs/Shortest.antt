-- Shortest lists of symbols that may be lines.
use Rattle.std.specs.Prelude.{◌≡◌, ℕ, ◌<◌, ◌≤◌, Bool, ◌&&◌, not, List, ◌++◌, length, eqb, Option, Some, None}
use Rattle.std.proofs.Common.{Vec, Global}
use Rattle.abnfread.specs.Element.{Element, Elements, Rule}
use Rattle.abnfcheck.specs.Derivable.{AreLetters, Derives, DerivesAll, DerivesSome, DerivesTimes}
use Rattle.ruletable.specs.Letters.{has}
use Rattle.coverlines.specs.declared.bounds.LineBounds.{LineBounds}

-- whether a line may have a symbol: it is one of the alphabet, and not the one that ends a line
abbrev pub may : LineBounds → ℕ → Bool
may b c = has b.alphabet c && not (eqb c b.terminator)

-- a shortest one of some lists, and it has at most so many symbols
pub record IsShortestOf (lists : List ℕ → Type 0) (limit : ℕ) (w : List ℕ) : Type 0 where
  pub is : lists w
  pub within : length w ≤ limit
  pub least : (v : List ℕ) → lists v → length w ≤ length v

-- such a list; none, if each of the lists has more symbols
abbrev pub IsShortest : (List ℕ → Type 0) → ℕ → Option (Vec ℕ Global) → Type 0
IsShortest lists limit None = (v : List ℕ) → lists v → limit < length v
IsShortest lists limit (Some w) = IsShortestOf lists limit w.items

-- one list of each set, one after the other
pub record Joined (P Q : List ℕ → Type 0) (w : List ℕ) : Type 0 where
  pub front : List ℕ
  pub back : List ℕ
  pub first : P front
  pub second : Q back
  pub is : w ≡ front ++ back

-- a list of a set that may stand in a line
pub record Admitted (b : LineBounds) (lists : List ℕ → Type 0) (w : List ℕ) : Type 0 where
  pub symbols : AreLetters (may b) w
  pub is : lists w

module _ (b : LineBounds) (rules : List Rule) where
  -- what an element derives, and may stand in a line
  abbrev pub Spells : Element → List ℕ → Type 0
  Spells e = Admitted b (Derives (has b.alphabet) rules e)

  abbrev pub SpellsAll : Elements → List ℕ → Type 0
  SpellsAll es = Admitted b (DerivesAll (has b.alphabet) rules es)

  abbrev pub SpellsSome : Elements → List ℕ → Type 0
  SpellsSome es = Admitted b (DerivesSome (has b.alphabet) rules es)

  abbrev pub SpellsTimes : Element → ℕ → List ℕ → Type 0
  SpellsTimes e k = Admitted b (DerivesTimes (has b.alphabet) rules e k)
