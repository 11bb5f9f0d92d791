-- Sets that hold items of a line, and sets to which nothing can be added.
use Rattle.std.specs.Prelude.{◌≡◌, ℕ, List, slice_get, Some}
use Rattle.flatgrammar.specs.declared.flat_item.Item.{Item}
use Rattle.flatgrammar.specs.declared.tables.Tables as code_flat
use Rattle.earleyitems.specs.ItemSets.{IsNext}
use Rattle.flatgrammar.specs.Flat.{Flat, at}
use Rattle.flatgrammar.specs.Holds.{Holds}
use Rattle.flatgrammar.specs.Positions.{In}

abbrev pub Hold : Flat → List ℕ → ℕ → List Item → Type 0
Hold flat x j set = (a : Item) → In a set → Holds flat x j (at a.node a.step) a.origin

abbrev pub HoldAll : Flat → List ℕ → List (List Item) → Type 0
HoldAll flat x sets = (k : ℕ) (set : List Item) → slice_get sets k ≡ Some set → Hold flat x k set

abbrev pub IsClosed : code_flat.Tables → List (List Item) → List Item → Type 0
IsClosed flat sets set = (a : Item) → IsNext flat sets set set a → In a set

abbrev pub Keeps : List Item → List Item → Type 0
Keeps old new = (a : Item) → In a old → In a new
