-- Charts of rows.
-- Serves: judge, Chart::items
use Rattle.std.proofs.Common.{◌≡◌, ◌↔◌, ℕ, ◌≤◌, Some, None, List, [], length, map, slice_get, sym, ◌∙◌}
use Rattle.std.proofs.Common.{ap, arith}
use Rattle.std.proofs.lemmas.List.{length-map}
use Rattle.earleyitems.proofs.ChartSetsLemmas.{index_map, index_past}
use Rattle.earleyitems.proofs.IsBuiltLemmas.{built_exact}
use Rattle.earleyitems.specs.ChartSets.{pair, set_at}
use Rattle.earleyitems.specs.Charts.{IsBuilt}
use Rattle.flatgrammar.proofs.CallOfLemmas.{get_map}
use Rattle.flatgrammar.specs.Flat.{at}
use Rattle.flatgrammar.specs.Holds.{Holds}
use Rattle.flatgrammar.specs.NodeSteps.{flat_of}
use Rattle.flatgrammar.specs.TableViews.{GiveTargets}
use Rattle.flatgrammar.specs.declared.closure.DottedRule.{DottedRule}
use Rattle.flatgrammar.specs.declared.flat_item.Item.{Item}
use Rattle.flatgrammar.specs.declared.tables.Tables as code_flat
use Rattle.earley.specs.RowCharts.{row_views, rows_chart, IsSizedChart}
use Rattle.earley.specs.RowItems.{IsRowItem, row_items}
use Rattle.earley.specs.declared.row_sets.KeptRows.{KeptRows}
use Rattle.earley.specs.declared.row_sets.RowChart.{RowChart}
use Rattle.earley.proofs.RowItemsLemmas.{row_item_in, in_row_item}

-- the last set decides
pub row_answer : (flat : code_flat.Tables) → GiveTargets (flat_of flat) flat.targets.items
    → (x : List ℕ) (dots : List DottedRule)
    (sets : List KeptRows) (kept : KeptRows) (n : ℕ) → IsBuilt flat x (row_views dots sets)
    → slice_get (row_views dots sets) n ≡ Some (row_items dots kept.rows.items)
    → IsRowItem dots kept.rows.items (record { node = flat.start; step = 1; origin = 0 })
    ↔ Holds (flat_of flat) x n (at flat.start 1) 0
row_answer flat targets x dots sets kept n built there =
    let exact = built_exact flat targets x (row_views dots sets) built n (row_items dots kept.rows.items) there in
    let whole : Item = record { node = flat.start; step = 1; origin = 0 } in (
      (λ h. exact.held whole (row_item_in dots kept.rows.items whole h)),
      (λ h. in_row_item dots kept.rows.items whole (exact.all (at flat.start 1) 0 h)),
    )

-- sizes
pub no_rows : IsSizedChart None
no_rows = record { size = λ r is. absurd (cc is) }

pub row_size : (r : RowChart) (j : ℕ) (kept : KeptRows) → slice_get r.sets.items j ≡ Some kept
    → kept.size ≡ length (row_items r.table.dots.items kept.rows.items) → kept.size ≡ length (set_at (rows_chart r) j)
row_size r j kept is size =
    size ∙ (sym (length-map (row_items r.table.dots.items kept.rows.items) pair)
    ∙ ap (λ v. length v) (sym (index_map (λ set. map pair set) (row_views r.table.dots.items r.sets.items) j
    (row_items r.table.dots.items kept.rows.items) []
    (get_map (λ s. row_items r.table.dots.items s.rows.items) r.sets.items j is))))

pub row_size_past : (r : RowChart) (j : ℕ) → length r.sets.items ≤ j → length (set_at (rows_chart r) j) ≡ 0
row_size_past r j le =
    let count = length-map r.sets.items (λ s. row_items r.table.dots.items s.rows.items) in
    ap (λ v. length v) (index_past (λ set. map pair set) (row_views r.table.dots.items r.sets.items) j []
    (omega (arith, le, count)))
