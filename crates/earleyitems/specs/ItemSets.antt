-- Item sets as lists, and how one grows.
use Rattle.std.specs.Prelude.{◌≡◌, ℕ, ◌<◌, ◌⊎◌, true, List, [], ◌∷◌, ◌++◌, length, slice_get, Option, Some, None}
use Rattle.flatgrammar.specs.declared.flat_item.Item.{Item}
use Rattle.flatgrammar.specs.declared.tables.Tables as code_flat
use Rattle.flatgrammar.specs.Positions.{In, AreDifferent}
use Rattle.flatgrammar.specs.TableViews.{count_in, done_of, call_of, takes_of}

-- new is old, and after it those of Q that were not there, each once
pub record Adds {A : Type 0} (Q : A → Type 0) (old : List A) (new : List A) : Type 0 where
  pub added : List A
  pub is : new ≡ old ++ added
  pub all : (a : A) → Q a → In a new
  pub only : (a : A) → In a new → In a old ⊎ Q a
  pub different : AreDifferent old → AreDifferent new

-- new is old, and perhaps one more after it
abbrev pub IsOneMore : {A : Type 0} → A → List A → List A → Type 0
IsOneMore a old new = (new ≡ old) ⊎ (new ≡ old ++ a ∷ [])

-- the items where a target begins
abbrev pub IsBegun : ℕ → ℕ → ℕ → Item → Type 0
IsBegun target count j a = (a.node ≡ target) × (a.step < count) × (a.origin ≡ j)

-- those that wait for a target, advanced over it
pub record IsAdvanced (flat : code_flat.Tables) (target : ℕ) (waiting : List Item) (a : Item) : Type 0 where
  pub from : Item
  pub stands : In from waiting
  pub call : call_of flat from ≡ Some (target, a.step)
  pub node : a.node ≡ from.node
  pub origin : a.origin ≡ from.origin

-- the items that may wait since letter o
abbrev pub waiting_or : List Item → Option (List Item) → List Item
waiting_or seen None = seen
waiting_or seen (Some earlier) = earlier

abbrev pub waiting_in : List (List Item) → List Item → ℕ → List Item
waiting_in sets seen o = waiting_or seen (slice_get sets o)

-- the items that one predicts
pub record IsPredicted (flat : code_flat.Tables) (j : ℕ) (item : Item) (a : Item) : Type 0 where
  pub target : ℕ
  pub next : ℕ
  pub call : call_of flat item ≡ Some (target, next)
  pub begun : IsBegun target (count_in (slice_get flat.nodes.items target)) j a

-- the items that the completion of one adds
pub record IsCompleted (flat : code_flat.Tables) (sets : List (List Item)) (seen : List Item) (item : Item)
    (a : Item) : Type 0 where
  pub done : done_of flat item ≡ true
  pub advanced : IsAdvanced flat item.node (waiting_in sets seen item.origin) a

-- of them, those that are allowed: after an iteration that takes a letter only in a later set
pub record IsAllowedCompletion (flat : code_flat.Tables) (sets : List (List Item)) (seen : List Item) (item : Item)
    (a : Item) : Type 0 where
  pub completed : IsCompleted flat sets seen item a
  pub later : takes_of flat completed.advanced.from ≡ true → item.origin < length sets

abbrev pub IsNextOf : code_flat.Tables → List (List Item) → List Item → Item → Item → Type 0
IsNextOf flat sets seen item a = IsPredicted flat (length sets) item a ⊎ IsAllowedCompletion flat sets seen item a

-- the items that the front of a set predicts or completes
pub record IsNext (flat : code_flat.Tables) (sets : List (List Item)) (seen : List Item) (front : List Item)
    (a : Item) : Type 0 where
  pub by : Item
  pub stands : In by front
  pub next : IsNextOf flat sets seen by a
