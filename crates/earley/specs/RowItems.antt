-- Item sets as rows: of each dotted rule, by number, its origins.
use Rattle.std.specs.Prelude.{◌≡◌, ◌↔◌, ◌⊎◌, ℕ, ◌+◌, ◌<◌, List, [], ◌∷◌, ◌++◌, length, map, Some, slice_get, Contains}
use Rattle.earley.specs.RowSets.{Rows, HasAt}
use Rattle.earleyitems.specs.ItemSets.{IsAdvanced, waiting_in}
use Rattle.flatgrammar.specs.ItemClosures.{item_at, dot}
use Rattle.flatgrammar.specs.NodeSteps.{IfSomeSet}
use Rattle.flatgrammar.specs.TableViews.{read_of}
use Rattle.flatgrammar.specs.declared.closure.DottedRule.{DottedRule}
use Rattle.flatgrammar.specs.declared.flat_item.Item.{Item}
use Rattle.flatgrammar.specs.declared.tables.Tables as code_flat
use Rattle.flatgrammar.specs.Positions.{In}
use Rattle.earley.specs.declared.dot_table.Call.{Call}

-- the row of the item's dotted rule has its origin
pub record IsRowItem (dots : List DottedRule) (rows : List (List ℕ)) (a : Item) : Type 0 where
  pub position : ℕ
  pub is : slice_get dots position ≡ Some (dot a.node a.step)
  pub has : HasAt rows position a.origin

-- the items of rows: dotted rules in order, then their origins
abbrev pub row_items : List DottedRule → List (List ℕ) → List Item
row_items [] rows = []
row_items (s ∷ dots) [] = []
row_items (s ∷ dots) (row ∷ rows) = map (λ k. item_at k s) row ++ row_items dots rows

-- the rows got the items of Q. What is new is pending, and what was pending still is
pub record Gains (dots : List DottedRule) (Q : Item → Type 0) (old new : Rows) : Type 0 where
  pub count : length new.all ≡ length old.all
  pub all : (a : Item) → Q a → IsRowItem dots new.all a
  pub only : (a : Item) → IsRowItem dots new.all a → IsRowItem dots old.all a ⊎ Q a
  pub kept : (a : Item) → IsRowItem dots old.all a → IsRowItem dots new.all a
  pub still : (a : Item) → IsRowItem dots old.pending a → IsRowItem dots new.pending a
  pub fresh : (a : Item) → IsRowItem dots new.all a → IsRowItem dots old.all a ⊎ IsRowItem dots new.pending a
  pub within : (a : Item) → IsRowItem dots new.pending a → IsRowItem dots old.pending a ⊎ IsRowItem dots new.all a

-- the dotted rule after a call, with the origins of the dotted rule that calls
abbrev pub IsAfterCall : List DottedRule → Call → List (List ℕ) → Item → Type 0
IsAfterCall dots call rows a = (slice_get dots call.after ≡ Some (dot a.node a.step)) × HasAt rows call.from a.origin

-- the dotted rules after these calls, with the origins of the dotted rules that call
pub record IsCalledBy (dots : List DottedRule) (calls : List Call) (rows : List (List ℕ)) (a : Item) : Type 0 where
  pub call : Call
  pub stands : In call calls
  pub after : slice_get dots call.after ≡ Some (dot a.node a.step)
  pub has : HasAt rows call.from a.origin

-- what a relation adds for the items of a dotted rule with the numbers of a row
pub record IsFor (dots : List DottedRule) (position : ℕ) (row : List ℕ) (W : Item → Item
    → Type 0) (a : Item) : Type 0 where
  pub by : Item
  pub is : slice_get dots position ≡ Some (dot by.node by.step)
  pub has : Contains row by.origin
  pub work : W by a

-- what the completion of a target adds, with each number of a row that is below one
pub record IsCompletedBy (flat : code_flat.Tables) (sets : List (List Item)) (target : ℕ) (row : List ℕ) (below : ℕ)
    (a : Item) : Type 0 where
  pub origin : ℕ
  pub has : Contains row origin
  pub under : origin < below
  pub advanced : IsAdvanced flat target (waiting_in sets [] origin) a

-- what an item becomes by a symbol
pub record IsScannedFor (flat : code_flat.Tables) (c : ℕ) (by a : Item) : Type 0 where
  pub reads : IfSomeSet (read_of flat by) c
  pub node : a.node ≡ by.node
  pub step : a.step ≡ by.step + 1
  pub origin : a.origin ≡ by.origin

-- the dotted rule with a number of Q below n
pub record HasDotBelow (dots : List DottedRule) (Q : ℕ → Type 0) (n : ℕ) (s : DottedRule) : Type 0 where
  pub position : ℕ
  pub under : position < n
  pub is : slice_get dots position ≡ Some s
  pub some : Q position

-- the dotted rules with such numbers
abbrev pub AreDotsBelow : List DottedRule → (ℕ → Type 0) → ℕ → List DottedRule → Type 0
AreDotsBelow dots Q n found = (s : DottedRule) → In s found ↔ HasDotBelow dots Q n s
