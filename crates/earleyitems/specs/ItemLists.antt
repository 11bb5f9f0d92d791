-- The items of a set beside its closures, as they are kept.
use Rattle.std.specs.Prelude.{ℕ, List}
use Rattle.flatgrammar.specs.declared.flat_item.Item.{Item}

-- each item has its owner at the same index; further owners may come after them
pub record ItemList : Type 0 where
  pub items : List Item
  pub owners : List ℕ
