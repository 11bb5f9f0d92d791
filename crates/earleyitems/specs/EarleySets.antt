-- Sets as they are kept, one after another: each is a part of three lists.
use Rattle.std.specs.Prelude.{◌≡◌, ℕ, ◌≤◌, ◌++◌, List, [], ◌∷◌, length, map, slice_get, slice_range, take}
use Rattle.std.specs.Prelude.{Some}
use Rattle.flatgrammar.specs.declared.flat_item.Item.{Item}
use Rattle.earleyitems.specs.declared.waiters.Waiter.{Waiter}
use Rattle.earleyitems.specs.declared.sets.IndexRange.{IndexRange}
use Rattle.earleyitems.specs.declared.sets.Record.{Record}
use Rattle.earleyitems.specs.declared.sets.SetBounds.{SetBounds}
use Rattle.earleyitems.specs.declared.sets.Stores.{Stores}

-- a set as it is kept
pub record EarleySet : Type 0 where
  pub predictions : List ℕ
  pub items : List Item
  pub firsts : List ℕ
  pub waiters : List Waiter
  pub size : ℕ

-- a part of a list
abbrev pub part_of : {A : Type 0} → List A → IndexRange → List A
part_of xs part = slice_range xs part.from part.to

abbrev pub the_record : ℕ → ℕ → Record
the_record prediction first = record { prediction = prediction; first = first }

abbrev pub predictions_of : List Record → List ℕ
predictions_of records = map (λ r. r.prediction) records

abbrev pub firsts_of : List Record → List ℕ
firsts_of records = map (λ r. r.first) records

-- the same predictions, whose waiting lists may differ
abbrev pub AreSamePredictions : List Record → List Record → Type 0
AreSamePredictions old new = predictions_of new ≡ predictions_of old

-- the set that stands between those bounds
abbrev pub set_in : Stores → SetBounds → EarleySet
set_in s b = record {
  predictions = predictions_of (part_of s.records.items b.records);
  items = part_of s.items.items b.items;
  firsts = firsts_of (part_of s.records.items b.records);
  waiters = take b.waiters s.waiters.items;
  size = b.size;
}

abbrev pub sets_in : Stores → List SetBounds → List EarleySet
sets_in s bounds = map (set_in s) bounds

-- a part lies within so many entries
pub record IsPart (part : IndexRange) (count : ℕ) : Type 0 where
  pub ordered : part.from ≤ part.to
  pub inside : part.to ≤ count

pub record AreBounds (s : Stores) (b : SetBounds) : Type 0 where
  pub records : IsPart b.records (length s.records.items)
  pub items : IsPart b.items (length s.items.items)
  pub waiters : b.waiters ≤ length s.waiters.items

abbrev pub AreAllBounds : Stores → List SetBounds → Type 0
AreAllBounds s bounds = (j : ℕ) (b : SetBounds) → slice_get bounds j ≡ Some b → AreBounds s b

-- how many waiters the last set has before its end
abbrev pub last_waiters : ℕ → List SetBounds → ℕ
last_waiters count [] = count
last_waiters count (b ∷ bounds) = last_waiters b.waiters bounds

-- the lists of some sets; after the waiters of the last one there are no others
pub record AreStored (s : Stores) (bounds : List SetBounds) : Type 0 where
  pub within : AreAllBounds s bounds
  pub ends : last_waiters 0 bounds ≡ length s.waiters.items

-- a list goes on after its end
abbrev pub GoesOn : {A : Type 0} → List A → List A → Type 0
GoesOn {A} old new = (more : List A) × (new ≡ old ++ more)

-- all lists go on after their ends
pub record GoOn (old new : Stores) : Type 0 where
  pub records : GoesOn old.records.items new.records.items
  pub items : GoesOn old.items.items new.items.items
  pub waiters : GoesOn old.waiters.items new.waiters.items

-- the part of a list that was appended to it
pub record IsAppended {A : Type 0} (new more : List A) (part : IndexRange) : Type 0 where
  pub is : part_of new part ≡ more
  pub within : IsPart part (length new)
