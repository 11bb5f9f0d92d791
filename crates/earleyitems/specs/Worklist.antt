-- What the worklist adds for one item of a set.
use Rattle.std.specs.Prelude.{◌≡◌, ℕ, ◌⊎◌, true, false, List, [], length, Some}
use Rattle.flatgrammar.specs.declared.flat_item.Item.{Item}
use Rattle.flatgrammar.specs.declared.tables.Tables as code_flat
use Rattle.flatgrammar.specs.TableViews.{null_of, call_of, takes_of}
use Rattle.earleyitems.specs.ItemSets.{IsPredicted, IsCompleted}
use Rattle.flatgrammar.specs.Positions.{In}

-- the item after one that calls a nullable target, but for an iteration that takes a letter
pub record AdvancesNullable (flat : code_flat.Tables) (item : Item) (a : Item) : Type 0 where
  pub target : ℕ
  pub call : call_of flat item ≡ Some (target, a.step)
  pub null : null_of flat target ≡ true
  pub free : takes_of flat item ≡ false
  pub node : a.node ≡ item.node
  pub origin : a.origin ≡ item.origin

-- those that an item adds: by prediction, over a nullable target, and by completion
abbrev pub IsWork : code_flat.Tables → List (List Item) → Item → Item → Type 0
IsWork flat sets item a = (IsPredicted flat (length sets) item a ⊎ AdvancesNullable flat item a)
    ⊎ IsCompleted flat sets [] item a

-- what is predicted, advanced and completed for the items of a front is there
abbrev pub IsWorked : code_flat.Tables → List (List Item) → List Item → List Item → Type 0
IsWorked flat sets front set = (a : Item) → In a front → (b : Item) → IsWork flat sets a b → In b set
