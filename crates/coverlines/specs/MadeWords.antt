-- What an element derives in the ways of goals, in shortest lists.
use Rattle.std.specs.Prelude.{◌≡◌, ℕ, ◌≤◌, List, [], ◌∷◌, ◌++◌, length, Contains, Option, Some, None}
use Rattle.std.proofs.Common.{Vec, Global}
use Rattle.abnfread.specs.Element.{Element, Rule}
use Rattle.ruletable.specs.Letters.{has}
use Rattle.coverlines.specs.Goals.{Makes}
use Rattle.coverlines.specs.Shortest.{Admitted, IsShortestOf, may}
use Rattle.coverlines.specs.declared.bounds.LineBounds.{LineBounds}
use Rattle.coverlines.specs.declared.made.MadeWord.{MadeWord}
use Rattle.coverlines.specs.declared.way.GoalWay.{GoalWay}

-- a list in a way, if it is there
abbrev pub made_of : GoalWay → Option (Vec ℕ Global) → List MadeWord
made_of way None = []
made_of way (Some w) = record { way = way; word = w } ∷ []

module _ (b : LineBounds) (rules : List Rule) (e : Element) where
  -- the element derives a list in that way, and it may stand in a line
  abbrev pub MakesSo : GoalWay → List ℕ → Type 0
  MakesSo way = Admitted b (Makes (has b.alphabet) (may b) rules e way)

  -- one of them is made in that way, and it is no longer
  pub record HasMade (all : List MadeWord) (way : GoalWay) (w : List ℕ) : Type 0 where
    pub made : MadeWord
    pub among : Contains all made
    pub same : made.way ≡ way
    pub within : length made.word.items ≤ length w

  -- Each of them is a shortest one that the element makes in its way; and of each way of a set one is there, if it has
  -- at most `limit` symbols.
  pub record AreMadeIn (ways : GoalWay → Type 0) (all : List MadeWord) : Type 0 where
    pub right : (m : MadeWord) → Contains all m → IsShortestOf (MakesSo m.way) b.limit m.word.items
    pub complete : (way : GoalWay) (w : List ℕ) → ways way → MakesSo way w → length w ≤ b.limit → HasMade all way w

  -- such lists were added
  pub record AddsMade (ways : GoalWay → Type 0) (old new : List MadeWord) : Type 0 where
    pub added : List MadeWord
    pub made : AreMadeIn ways added
    pub is : new ≡ old ++ added

  -- .. of each way
  pub record AreMade (all : List MadeWord) : Type 0 where
    pub right : (m : MadeWord) → Contains all m → IsShortestOf (MakesSo m.way) b.limit m.word.items
    pub complete : (way : GoalWay) (w : List ℕ) → MakesSo way w → length w ≤ b.limit → HasMade all way w
