-- The owner of an item: where its prediction stands among the predictions of the set of its origin.
use Rattle.std.specs.Prelude.{◌≡◌, ℕ, ◌<◌, ◌++◌, List, [], ◌∷◌, Some, map, slice_get, slice_index_or}
use Rattle.flatgrammar.specs.ItemClosures.{owner_of}
use Rattle.flatgrammar.specs.Positions.{In}
use Rattle.flatgrammar.specs.declared.flat_item.Item.{Item}
use Rattle.flatgrammar.specs.declared.tables.Tables as code_flat
use Rattle.earleyitems.specs.EarleySets.{EarleySet}
use Rattle.earleyitems.specs.ItemLists.{ItemList}
use Rattle.earleyitems.specs.declared.postdot.CallingItem.{CallingItem}
use Rattle.earleyitems.specs.declared.postdot.OwnedItem.{OwnedItem}
use Rattle.earleyitems.specs.declared.waiters.Waiter.{Waiter}

-- the predictions of each set
abbrev pub prediction_rows : List EarleySet → List (List ℕ)
prediction_rows kept_sets = map (λ f. f.predictions) kept_sets

-- .. and those of a further set
abbrev pub prediction_rows_with : List EarleySet → List ℕ → List (List ℕ)
prediction_rows_with kept_sets predictions = prediction_rows kept_sets ++ predictions ∷ []

-- the prediction in whose closure the item's node stands has that index among the predictions of the set of its origin
abbrev pub IsOwner : code_flat.Tables → List (List ℕ) → Item → ℕ → Type 0
IsOwner flat rows a owner = slice_get (slice_index_or rows a.origin []) owner ≡ Some (owner_of flat a.node)

-- .. if that set is there
abbrev pub IsOwnerThere : code_flat.Tables → List EarleySet → Item → ℕ → Type 0
IsOwnerThere flat kept_sets a owner = (f : EarleySet) → slice_get kept_sets a.origin ≡ Some f
    → slice_get f.predictions owner ≡ Some (owner_of flat a.node)

-- what stands in the rows stands there in more of them
abbrev pub HavePredictions : List (List ℕ) → List (List ℕ) → Type 0
HavePredictions more rows = (o i h : ℕ) → slice_get (slice_index_or rows o []) i ≡ Some h
    → slice_get (slice_index_or more o []) i ≡ Some h

abbrev pub AreItemsOwned : code_flat.Tables → List (List ℕ) → ItemList → Type 0
AreItemsOwned flat rows list = (i : ℕ) (a : Item) (owner : ℕ) → slice_get list.items i ≡ Some a
    → slice_get list.owners i ≡ Some owner → IsOwner flat rows a owner

abbrev pub AreReadersOwned : code_flat.Tables → List (List ℕ) → List OwnedItem → Type 0
AreReadersOwned flat rows readers = (r : OwnedItem) → In r readers → IsOwner flat rows r.item r.owner

abbrev pub AreCallersOwned : code_flat.Tables → List (List ℕ) → List CallingItem → Type 0
AreCallersOwned flat rows callers = (c : CallingItem) → In c callers → IsOwner flat rows c.at.item c.at.owner

-- of the first so many waiters
abbrev pub AreFirstOwned : code_flat.Tables → List (List ℕ) → List Waiter → ℕ → Type 0
AreFirstOwned flat rows waiters count = (i : ℕ) (w : Waiter) → i < count → slice_get waiters i ≡ Some w
    → IsOwner flat rows w.item w.owner

abbrev pub AreWaitersOwned : code_flat.Tables → List (List ℕ) → List Waiter → Type 0
AreWaitersOwned flat rows waiters = (i : ℕ) (w : Waiter) → slice_get waiters i ≡ Some w
    → IsOwner flat rows w.item w.owner

-- the waiters of all sets
abbrev pub AreSetsOwned : code_flat.Tables → List EarleySet → Type 0
AreSetsOwned flat kept_sets = (k : ℕ) (f : EarleySet) → slice_get kept_sets k ≡ Some f
    → AreWaitersOwned flat (prediction_rows kept_sets) f.waiters
