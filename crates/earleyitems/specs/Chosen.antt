-- Of the items of a set those that call, and those that may read a letter.
use Rattle.std.specs.Prelude.{◌≡◌, ℕ, ◌+◌, List, length, map, Some, slice_get}
use Rattle.flatgrammar.specs.NodeSteps.{IfSomeSet}
use Rattle.flatgrammar.specs.Positions.{In, AreDifferent}
use Rattle.flatgrammar.specs.TableViews.{call_of, read_of}
use Rattle.flatgrammar.specs.declared.flat_item.Item.{Item}
use Rattle.flatgrammar.specs.declared.tables.Tables as code_flat
use Rattle.earleyitems.specs.EarleySets.{EarleySet}
use Rattle.earleyitems.specs.declared.postdot.OwnedItem.{OwnedItem}
use Rattle.earleyitems.specs.declared.postdot.CallingItem.{CallingItem}

-- the items without their owners
abbrev pub items_of : List OwnedItem → List Item
items_of list = map (λ h. h.item) list

-- an item calls a target
abbrev pub Calls : code_flat.Tables → Item → Type 0
Calls flat a = (t : ℕ) × (l : ℕ) × (call_of flat a ≡ Some (t, l))

-- an item reads some letter
abbrev pub ReadsSome : code_flat.Tables → Item → Type 0
ReadsSome flat a = (c : ℕ) × IfSomeSet (read_of flat a) c

-- of all items a few, among them all of Q, each once where the items are different
pub record AreChosen (Q : Item → Type 0) (all few : List Item) : Type 0 where
  pub stand : (a : Item) → In a few → In a all
  pub chosen : (a : Item) → In a all → Q a → In a few
  pub different : AreDifferent all → AreDifferent few

-- the items that call
abbrev pub callers_of : List CallingItem → List Item
callers_of list = map (λ c. c.at.item) list

-- each item calls what it is said to call
abbrev pub AreCalls : code_flat.Tables → List CallingItem → Type 0
AreCalls flat callers = (c : CallingItem) → In c callers → call_of flat c.at.item ≡ Some (c.target, c.next)

-- of all items at least those that call, with what they call
pub record AreCallers (flat : code_flat.Tables) (all : List Item) (callers : List CallingItem) : Type 0 where
  pub chosen : AreChosen (Calls flat) all (callers_of callers)
  pub report : AreCalls flat callers

-- the readers are those of the last set
abbrev pub AreReaders : code_flat.Tables → List EarleySet → List OwnedItem → Type 0
AreReaders flat kept_sets readers = (k : ℕ) (f : EarleySet) → length kept_sets ≡ k + 1 → slice_get kept_sets k ≡ Some f
    → AreChosen (ReadsSome flat) f.items (items_of readers)
