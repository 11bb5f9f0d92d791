-- By whom nodes are named.
use Rattle.std.specs.Prelude.{◌≡◌, ◌⊎◌, ℕ, ◌<◌, List, [], ◌∷◌, length, map, slice_get, get_or, option_to_list, Some}
use Rattle.pegnodes.specs.Nodes.{Shape, Any, Bytes, Set, Name, Seq, Choice, Star, Plus, Opt, And, Not, Act, Open}
use Rattle.pegnodes.specs.Nodes.{Close}
use Rattle.pegnodes.specs.declared.namers.Namer.{Namer}
use Rattle.pegnodes.specs.declared.namers.Namer.TheVariants.{Nobody, By, Both, Many}

-- the nodes that a node names, in order, but for a repetition that goes on with itself
abbrev pub names_of : List ℕ → Shape → List ℕ
names_of bodies Any = []
names_of bodies (Bytes bs) = []
names_of bodies (Set s) = []
names_of bodies (Name id) = option_to_list (slice_get bodies id)
names_of bodies (Seq ms) = ms
names_of bodies (Choice ms) = ms
names_of bodies (Star m) = m ∷ []
names_of bodies (Plus m k) = m ∷ (k ∷ [])
names_of bodies (Opt m) = m ∷ []
names_of bodies (And m) = m ∷ []
names_of bodies (Not m) = m ∷ []
names_of bodies (Act t) = []
names_of bodies Open = []
names_of bodies Close = []

-- of each node the nodes that it names
abbrev pub name_rows : List ℕ → List Shape → List (List ℕ)
name_rows bodies nodes = map (names_of bodies) nodes

-- the namer of a node that n names once more
abbrev pub named_by : ℕ → Namer → Namer
named_by n Nobody = By n
named_by n (By a) = Both a n
named_by n (Both a b) = Many
named_by n Many = Many

module _ (rows : List (List ℕ)) where
  -- node n names m at index t
  abbrev pub NamesAt : ℕ → ℕ → ℕ → Type 0
  NamesAt n t m = (row : List ℕ) × (slice_get rows n ≡ Some row) × (slice_get row t ≡ Some m)

  -- it does so before index k of row i
  abbrev pub IsBefore : ℕ → ℕ → ℕ → ℕ → Type 0
  IsBefore i k n t = (n < i) ⊎ ((n ≡ i) × (t < k))

  -- what the namings before index k of row i say of m's namer: nobody names it; or only this node does, and once; or
  -- only these two do
  abbrev pub IsNamerTo : ℕ → ℕ → ℕ → Namer → Type 0
  IsNamerTo i k m Nobody = (n t : ℕ) → IsBefore i k n t → NamesAt n t m → ⊥
  IsNamerTo i k m (By a) = (c : ℕ) × ((n t : ℕ) → IsBefore i k n t → NamesAt n t m → (n ≡ a) × (t ≡ c))
  IsNamerTo i k m (Both a b) = (n t : ℕ) → IsBefore i k n t → NamesAt n t m → (n ≡ a) ⊎ (n ≡ b)
  IsNamerTo i k m Many = Unit {0}

  abbrev pub AreNamersTo : ℕ → ℕ → List Namer → Type 0
  AreNamersTo i k namers = (m : ℕ) → IsNamerTo i k m (get_or namers m Many)

  -- of each node by whom it is named
  abbrev pub AreNamers : List Namer → Type 0
  AreNamers namers = AreNamersTo (length rows) 0 namers
