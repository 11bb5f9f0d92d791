-- The waiting lists of the predictions of a set, as lists of links.
use Rattle.std.specs.Prelude.{◌≡◌, ℕ, suc, ◌<◌, ◌≤◌, ◌⊎◌, List, [], ◌∷◌, Some, None, length, slice_get, slice_index_or}
use Rattle.flatgrammar.specs.declared.flat_item.Item.{Item}
use Rattle.flatgrammar.specs.declared.tables.Tables as code_flat
use Rattle.flatgrammar.specs.TableViews.{call_of}
use Rattle.flatgrammar.specs.declared.dot_list.Ask.{Ask}
use Rattle.flatgrammar.specs.ItemClosures.{item_at, begin_count, inlined_of}
use Rattle.flatgrammar.specs.Positions.{In}
use Rattle.earleyitems.specs.EarleySets.{EarleySet}
use Rattle.earleyitems.specs.declared.waiters.Waiter.{Waiter}
use Rattle.earleyitems.specs.ItemSets.{IsAdvanced}
use Rattle.earleyitems.specs.SetViews.{view}

-- the items of a list of links, which begins one before that index
pub data Chain (waiters : List Waiter) : ℕ → List Item → Type 0 where
  ended : Chain waiters 0 []
  linked : {k : ℕ} {w : Waiter} {items : List Item} → slice_get waiters k ≡ Some w → w.next ≤ k
      → Chain waiters w.next items
      → Chain waiters (suc k) (w.item ∷ items)

-- what a list has before a link stands in a set, and the rest is listed from that link on
pub record IsSkippedTo (waiters : List Waiter) (at : ℕ) (items set : List Item) : Type 0 where
  pub rest : List Item
  pub chain : Chain waiters at rest
  pub seen : (a : Item) → In a items → In a set ⊎ In a rest
  pub left : (a : Item) → In a rest → In a items

-- the list has those of Q
pub record IsListed (waiters : List Waiter) (first : ℕ) (Q : Item → Type 0) : Type 0 where
  pub items : List Item
  pub chain : Chain waiters first items
  pub all : (a : Item) → Q a → In a items
  pub only : (a : Item) → In a items → Q a

-- the item of that step beside another
abbrev pub item_from : Item → ℕ → Item
item_from item step = record { node = item.node; step = step; origin = item.origin }

-- the item of a call site
abbrev pub call_site_at : ℕ → Ask → Item
call_site_at j site = item_at j site.dot

-- for each prediction that no one dotted rule alone calls, the items after those that call it
abbrev pub AreWaiting : code_flat.Tables → List Item → List ℕ → List ℕ → List Waiter → Type 0
AreWaiting flat positions predictions firsts waiters = (h t : ℕ) → slice_get predictions h ≡ Some t → inlined_of flat t
    ≡ None
    → IsListed waiters (slice_index_or firsts h 0) (IsAdvanced flat t positions)

abbrev pub AreWaitingAll : code_flat.Tables → List EarleySet → Type 0
AreWaitingAll flat kept_sets = (k : ℕ) (f : EarleySet) → slice_get kept_sets k ≡ Some f
    → AreWaiting flat (view flat k f) f.predictions f.firsts f.waiters

-- a set as it is kept, of those predictions and items
pub record IsKept (flat : code_flat.Tables) (j : ℕ) (predictions : List ℕ) (items : List Item)
    (kept_set : EarleySet) : Type
    0 where
  pub same_predictions : kept_set.predictions ≡ predictions
  pub same_items : kept_set.items ≡ items
  pub size : (k : ℕ) → kept_set.size ≡ length (view flat k kept_set)
  pub waiting : AreWaiting flat (view flat j kept_set) kept_set.predictions kept_set.firsts kept_set.waiters

-- what begins in a set and goes on elsewhere began there
abbrev pub BeginHere : code_flat.Tables → ℕ → List Item → Type 0
BeginHere flat j set = (a : Item) (t l : ℕ) → In a set → a.step < begin_count flat a.node → call_of flat a ≡ Some (t, l)
    → (l ≡ a.step → ⊥) → a.origin ≡ j

abbrev pub BeginAll : code_flat.Tables → List EarleySet → Type 0
BeginAll flat kept_sets = (k : ℕ) (f : EarleySet) → slice_get kept_sets k ≡ Some f → BeginHere flat k (view flat k f)
