-- Numbers where classes of letters begin, and the classes between them.
use Rattle.std.specs.Prelude.{◌≡◌, ◌↔◌, ◌⊎◌, ℕ, ◌+◌, ◌<◌, ◌≤◌, ◌^◌, List, length, slice_get, Some, Contains}
use Rattle.std.specs.List.Sorted.{IsNonDecreasing}
use Rattle.ruletable.specs.Letters.{small}
use Rattle.flatgrammar.specs.Flat.{Flat, Node, Letters, Set, Has}
use Rattle.flatgrammar.specs.Stacks.{AreAlike}

-- no class begins at a number
pub record IsFree (bounds : List ℕ) (i : ℕ) : Type 0 where
  pub none : Contains bounds i → ⊥

-- no number was taken off
abbrev pub AreMoreBounds : List ℕ → List ℕ → Type 0
AreMoreBounds old new = (i : ℕ) → IsFree new i → IsFree old i

-- .. and this number was added
abbrev pub IsBoundAdded : List ℕ → List ℕ → ℕ → Type 0
IsBoundAdded old new n = (i : ℕ) → IsFree new i → IsFree old i × (i ≡ n → ⊥)

-- .. and so were the first number of a range and the one after its last, if that is below 2 ^ 32
abbrev pub AreEndsAdded : List ℕ → List ℕ → ℕ → ℕ → Type 0
AreEndsAdded old new low high = (i : ℕ) → IsFree new i → IsFree old i × (i ≡ low → ⊥)
    × (i < 2 ^ 32 → i ≡ high + 1 → ⊥)

-- the two cases of a letter
abbrev pub AreCases : ℕ → ℕ → Type 0
AreCases v w = (x : ℕ) → small x ≡ small v → (x ≡ v) ⊎ (x ≡ w)

-- a set holds a number where no class begins exactly if it holds the one before
abbrev pub IsSplit : List ℕ → Set → Type 0
IsSplit bounds set = (c : ℕ) → c + 1 < 2 ^ 32 → IsFree bounds (c + 1) → Has set c ↔ Has set (c + 1)

abbrev pub AreSplit : List ℕ → List Set → Type 0
AreSplit bounds sets = (k : ℕ) (set : Set) → slice_get sets k ≡ Some set → IsSplit bounds set

abbrev pub IsNodeSplit : List ℕ → Node → Type 0
IsNodeSplit bounds node = (sets : List Set) → node ≡ Letters sets → AreSplit bounds sets

abbrev pub AreNodesSplit : List ℕ → List Node → Type 0
AreNodesSplit bounds nodes = (s : ℕ) (node : Node) → slice_get nodes s ≡ Some node → IsNodeSplit bounds node

-- after d and up to c no class begins
abbrev pub AreJoined : List ℕ → ℕ → ℕ → Type 0
AreJoined bounds d c = (d ≤ c) × ((i : ℕ) → d < i → i ≤ c → IsFree bounds i)

-- a class whose sample is in exactly the sets that have that letter
pub record IsClassOf (flat : Flat) (samples : List ℕ) (c k : ℕ) : Type 0 where
  pub sample : ℕ
  pub is : slice_get samples k ≡ Some sample
  pub alike : AreAlike flat c sample

-- at each index the list has the class of that number
abbrev pub HaveClasses : Flat → List ℕ → List ℕ → Type 0
HaveClasses flat samples low = (c k : ℕ) → slice_get low c ≡ Some k → IsClassOf flat samples c k

-- of each number below 256 its class
pub record AreLow (flat : Flat) (samples low : List ℕ) : Type 0 where
  pub count : length low ≡ 256
  pub classes : HaveClasses flat samples low

-- the samples begin classes, in ascending order, the first of them at 0
pub record AreParted (flat : Flat) (samples : List ℕ) : Type 0 where
  pub first : IsFree samples 0 → ⊥
  pub ordered : IsNonDecreasing samples
  pub split : AreNodesSplit samples flat.nodes

pub record AreClasses (flat : Flat) (low samples : List ℕ) : Type 0 where
  pub low_are : AreLow flat samples low
  pub parted : AreParted flat samples
