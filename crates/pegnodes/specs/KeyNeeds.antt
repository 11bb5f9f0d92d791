-- What shows that a node needs no mark of a key.
use Rattle.std.specs.Prelude.{◌≡◌, ◌⊎◌, ℕ, Bool, List, [], slice_get, get_or, Option, Some, None, Contains}
use Rattle.fixpoint.specs.Demands.{Demand, All, One}
use Rattle.fixpoint.specs.NumberMarks.{IsMarked}
use Rattle.pegnodes.specs.KeyMarks.{Single}
use Rattle.pegnodes.specs.Namers.{AreNamers, name_rows}
use Rattle.pegnodes.specs.Nodes.{Shape, Star}
use Rattle.pegnodes.specs.NodeWays.{Way, Leaf, Body, Members, Alternatives, Iterations, Operand, way_of}
use Rattle.pegnodes.specs.declared.keys.GoesOn.{GoesOn}
use Rattle.pegnodes.specs.declared.keys.GoesOn.TheVariants.{Missing, Once, Again}
use Rattle.pegnodes.specs.declared.namers.Namer.{Namer}
use Rattle.pegnodes.specs.declared.namers.Namer.TheVariants.{Many, By}

-- how a node goes on that does so in this way
abbrev pub going_of : Way → GoesOn
going_of Leaf = Once
going_of (Body id) = Once
going_of (Members ms) = Once
going_of (Alternatives ms) = Once
going_of (Iterations k s) = Again k s
going_of (Operand k) = Once

module _ (nodes : List Shape) where
  -- the node does not go on with a repetition
  pub record GoesOnce (n : ℕ) : Type 0 where
    pub shape : Shape
    pub at : slice_get nodes n ≡ Some shape
    pub once : (k s : ℕ) → way_of n shape ≡ Iterations k s → ⊥

  -- the node goes on with operand k and then with repetition s
  pub record GoesAgain (n k s : ℕ) : Type 0 where
    pub shape : Shape
    pub at : slice_get nodes n ≡ Some shape
    pub again : way_of n shape ≡ Iterations k s

  -- how node n goes on
  abbrev pub IsGoing : ℕ → GoesOn → Type 0
  IsGoing n Missing = Unit {0}
  IsGoing n Once = GoesOnce n
  IsGoing n (Again k s) = GoesAgain n k s

  -- m is no repetition, and not the one with which node a goes on
  pub record MayBePlain (a m : ℕ) : Type 0 where
    pub shape : Shape
    pub at : slice_get nodes a ≡ Some shape
    pub other : (k s : ℕ) → way_of a shape ≡ Iterations k s → m ≡ s → ⊥
    pub no_star : (k : ℕ) → slice_get nodes m ≡ Some (Star k) → ⊥

  -- m is a repetition, and not the operand of one with which node a goes on
  pub record MayBeLoop (a m : ℕ) : Type 0 where
    pub shape : Shape
    pub at : slice_get nodes a ≡ Some shape
    pub other : (k s : ℕ) → way_of a shape ≡ Iterations k s → m ≡ k → ⊥
    pub operand : ℕ
    pub is_star : slice_get nodes m ≡ Some (Star operand)

-- the body of the start rule is the root, and the namers are those of the nodes
pub record AreKnown (start : ℕ) (nodes : List Shape) (bodies : List ℕ) (root : ℕ) (namers : List Namer) : Type 0 where
  pub root_at : slice_get bodies start ≡ Some root
  pub named : AreNamers (name_rows bodies nodes) namers

module _ (start : ℕ) (nodes : List Shape) (bodies : List ℕ) where
  -- where the demand is met by nodes that are asked for once, so is m
  abbrev pub Justifies : ℕ → Demand → Type 0
  Justifies m (All row) = Single start nodes bodies m
  Justifies m (One row) = (a : ℕ) → Contains row a → Single start nodes bodies a → Single start nodes bodies m

  abbrev pub AreJustified : List Demand → Type 0
  AreJustified needs = (m : ℕ) → Justifies m (get_or needs m (One []))

  -- only nodes that are asked for once are marked
  abbrev pub AreSingles : List Bool → Type 0
  AreSingles singles = (m : ℕ) → IsMarked singles m → Single start nodes bodies m

-- m has a width, or its only namer is marked
abbrev pub IsPassed : List Namer → List Bool → List (Option ℕ) → ℕ → Type 0
IsPassed namers singles widths m = ((w : ℕ) × (get_or widths m None ≡ Some w))
    ⊎ ((a : ℕ) × (get_or namers m Many ≡ By a) × IsMarked singles a)
