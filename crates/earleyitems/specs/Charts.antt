-- A chart: sets that begin with the augmented start, are closed, and follow one another by letters.
use Rattle.std.specs.Prelude.{◌≡◌, ℕ, ◌+◌, ◌⊎◌, length, List, take, slice_get, Some}
use Rattle.flatgrammar.specs.declared.flat_item.Item.{Item}
use Rattle.flatgrammar.specs.declared.tables.Tables as code_flat
use Rattle.flatgrammar.specs.NodeSteps.{flat_of}
use Rattle.earleyitems.specs.Closed.{Hold, HoldAll, IsClosed}
use Rattle.earleyitems.specs.ItemSets.{IsBegun}
use Rattle.flatgrammar.specs.TableViews.{start_target, count_in}
use Rattle.flatgrammar.specs.Holds.{Holds}
use Rattle.earleyitems.specs.ScannedItems.{IsScannedItem}
use Rattle.flatgrammar.specs.Flat.{Dot, at, Starts}
use Rattle.flatgrammar.specs.Positions.{In, AreDifferent}

abbrev pub item_of : Dot → ℕ → Item
item_of (at s k) i = record { node = s; step = k; origin = i }

pub record IsChart (flat : code_flat.Tables) (x : List ℕ) (sets : List (List Item)) : Type 0 where
  pub begun : (set : List Item) → slice_get sets 0 ≡ Some set → (p : Dot) → Starts (flat_of flat) flat.start p
      → In (item_of p 0) set
  pub closed : (j : ℕ) (set : List Item) → slice_get sets j ≡ Some set → IsClosed flat (take j sets) set
  pub read : (j c : ℕ) (set next : List Item) → slice_get sets j ≡ Some set → slice_get sets (j + 1) ≡ Some next
      → slice_get x j ≡ Some c →
      (a : Item) → IsScannedItem flat c set a → In a next

-- the items where the augmented start begins
pub record IsWhole (flat : code_flat.Tables) (a : Item) : Type 0 where
  pub target : ℕ
  pub is : start_target flat ≡ Some target
  pub begun : IsBegun target (count_in (slice_get flat.nodes.items target)) 0 a

-- the items that the last set has after its letter
pub record IsAfter (flat : code_flat.Tables) (x : List ℕ) (sets : List (List Item)) (a : Item) : Type 0 where
  pub at : ℕ
  pub letter : ℕ
  pub last : List Item
  pub size : length sets ≡ at + 1
  pub set : slice_get sets at ≡ Some last
  pub letter_is : slice_get x at ≡ Some letter
  pub read : IsScannedItem flat letter last a

-- what a further set begins with
abbrev pub IsFirst : code_flat.Tables → List ℕ → List (List Item) → Item → Type 0
IsFirst flat x sets a = ((length sets ≡ 0) × IsWhole flat a) ⊎ IsAfter flat x sets a

-- set j is exactly the items of set j, each once
pub record IsExactSet (flat : code_flat.Tables) (x : List ℕ) (j : ℕ) (set : List Item) : Type 0 where
  pub held : Hold (flat_of flat) x j set
  pub all : (p : Dot) (i : ℕ) → Holds (flat_of flat) x j p i → In (item_of p i) set
  pub different : AreDifferent set

abbrev pub IsExact : code_flat.Tables → List ℕ → List (List Item) → Type 0
IsExact flat x sets = (j : ℕ) (set : List Item) → slice_get sets j ≡ Some set → IsExactSet flat x j set

-- a chart as far as it has come
pub record IsBuilt (flat : code_flat.Tables) (x : List ℕ) (sets : List (List Item)) : Type 0 where
  pub held : HoldAll (flat_of flat) x sets
  pub chart : IsChart flat x sets
  pub different : (j : ℕ) (set : List Item) → slice_get sets j ≡ Some set → AreDifferent set
