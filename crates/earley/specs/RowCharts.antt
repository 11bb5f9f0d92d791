-- Charts of rows.
use Rattle.std.specs.Prelude.{◌≡◌, ◌⊎◌, ℕ, List, map, length, Option, Some, None, slice_get}
use Rattle.earley.specs.RowSets.{Rows}
use Rattle.earleyitems.specs.ChartSets.{pair}
use Rattle.earleyitems.specs.Worklist.{IsWork}
use Rattle.flatgrammar.specs.Flat.{Dot, at}
use Rattle.flatgrammar.specs.Holds.{Holds}
use Rattle.flatgrammar.specs.NodeSteps.{flat_of}
use Rattle.flatgrammar.specs.declared.closure.DottedRule.{DottedRule}
use Rattle.flatgrammar.specs.declared.flat_item.Item.{Item}
use Rattle.flatgrammar.specs.declared.tables.Tables as code_flat
use Rattle.earley.specs.RowItems.{row_items, IsRowItem}
use Rattle.earley.specs.declared.row_sets.KeptRows.{KeptRows}
use Rattle.earley.specs.declared.row_sets.RowChart.{RowChart}

-- the items of each set
abbrev pub row_views : List DottedRule → List KeptRows → List (List Item)
row_views dots sets = map (λ s. row_items dots s.rows.items) sets

-- the sets of a chart of rows
abbrev pub rows_chart : RowChart → List (List (Dot × ℕ))
rows_chart r = map (λ set. map pair set) (row_views r.table.dots.items r.sets.items)

-- a chart: that of items, or that of rows where there is one
abbrev pub chart_by : Option RowChart → List (List (Dot × ℕ)) → List (List (Dot × ℕ))
chart_by None sparse = sparse
chart_by (Some rows) sparse = rows_chart rows

-- each set has its size beside it
abbrev pub AreSizedRows : List DottedRule → List KeptRows → Type 0
AreSizedRows dots sets = (j : ℕ) (s : KeptRows) → slice_get sets j ≡ Some s
    → s.size ≡ length (row_items dots s.rows.items)

pub record IsSizedChart (rows : Option RowChart) : Type 0 where
  pub size : (r : RowChart) → rows ≡ Some r → AreSizedRows r.table.dots.items r.sets.items

-- a set on which the worklist is at work: all that is not pending has been worked on
pub record IsRowWorklist (flat : code_flat.Tables) (dots : List DottedRule) (x : List ℕ) (sets : List (List Item))
    (rows : Rows) : Type 0 where
  pub count : length rows.all ≡ length dots
  pub held : (a : Item) → IsRowItem dots rows.all a
      → Holds (flat_of flat) x (length sets) (at a.node a.step) a.origin
  pub within : (a : Item) → IsRowItem dots rows.pending a → IsRowItem dots rows.all a
  pub worked : (a : Item) → IsRowItem dots rows.all a → IsRowItem dots rows.pending a
      ⊎ ((b : Item) → IsWork flat sets a b → IsRowItem dots rows.all b)
