-- The set after a letter.
use Rattle.std.specs.Prelude.{◌≡◌, ℕ, ◌+◌, List, ◌++◌}
use Rattle.flatgrammar.specs.declared.flat_item.Item.{Item}
use Rattle.flatgrammar.specs.declared.tables.Tables as code_flat
use Rattle.flatgrammar.specs.NodeSteps.{IfSomeSet}
use Rattle.flatgrammar.specs.Positions.{In, AreDifferent}
use Rattle.flatgrammar.specs.TableViews.{read_of}

pub record IsScannedItem (flat : code_flat.Tables) (c : ℕ) (from : List Item) (a : Item) : Type 0 where
  pub by : Item
  pub stands : In by from
  pub reads : IfSomeSet (read_of flat by) c
  pub node : a.node ≡ by.node
  pub step : a.step ≡ by.step + 1
  pub origin : a.origin ≡ by.origin

-- new is old, and then what the items have after the letter, each once where the items are different
pub record AreScannedItems (flat : code_flat.Tables) (c : ℕ) (from old new : List Item) : Type 0 where
  pub added : List Item
  pub is : new ≡ old ++ added
  pub all : (a : Item) → IsScannedItem flat c from a → In a added
  pub only : (a : Item) → In a added → IsScannedItem flat c from a
  pub different : AreDifferent from → AreDifferent added
