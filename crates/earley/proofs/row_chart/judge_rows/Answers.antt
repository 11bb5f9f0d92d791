use Rattle.std.proofs.Common.{◌≡◌, ◌↔◌, ℕ, IsTrue, length, map, subst, sym}
use Rattle.std.specs.Prelude.{IfSome}
use Rattle.earleyitems.specs.ChartSets.{set_at, IsSet}
use Rattle.flatgrammar.specs.ItemClosures.{AreExact}
use Rattle.flatgrammar.specs.Flat.{at}
use Rattle.flatgrammar.specs.Holds.{Holds}
use Rattle.flatgrammar.specs.NodeSteps.{flat_of}
use Rattle.earley.specs.RowCharts.{rows_chart}
use Rattle.earley.proofs.IsFlatVerdictLemmas.{derives_line}
use Rattle.earley.proofs.row_chart.judge_rows.Goals as goal

pub judge_by_table-requires-clause-exact : goal.judge_by_table-requires-clause-exact
judge_by_table-requires-clause-exact g c =
    subst (λ f. AreExact f.value)
    (sym (subst (λ o. IfSome o (λ t. t.flat ≡ c.in_ok-tables.tables)) c.in-Some.is c.in_ok-table.ensures.same))
    c.in_ok-tables.ensures.exact

pub returns-clause-sets : goal.returns-clause-sets
returns-clause-sets g c =
    subst (λ f. (j : ℕ) → IsSet f (map g.L.Letter.number c.args.line.now) j
    (set_at (rows_chart c.in_ok-judged.judged.chart) j)) c.in_ok-tables.ensures.view
    (subst (λ f. (j : ℕ) → IsSet (flat_of f.value) (map g.L.Letter.number c.args.line.now) j
    (set_at (rows_chart c.in_ok-judged.judged.chart) j))
    (subst (λ o. IfSome o (λ t. t.flat ≡ c.in_ok-tables.tables)) c.in-Some.is c.in_ok-table.ensures.same)
    c.in_ok-judged.ensures.sets)

pub returns-clause-answer : goal.returns-clause-answer
returns-clause-answer g c =
    let x = map g.L.Letter.number c.args.line.now in
    derives_line g.L.Letter.number c.args.flat.now c.args.line.now c.in_ok-judged.judged.yes
    (subst (λ f. IsTrue c.in_ok-judged.judged.yes ↔ Holds f x (length c.args.line.now) (at f.start 1) 0)
    c.in_ok-tables.ensures.view
    (subst (λ f. IsTrue c.in_ok-judged.judged.yes ↔ Holds (flat_of f.value) x (length c.args.line.now)
    (at (flat_of f.value).start 1) 0)
    (subst (λ o. IfSome o (λ t. t.flat ≡ c.in_ok-tables.tables)) c.in-Some.is c.in_ok-table.ensures.same)
    c.in_ok-judged.ensures.answer))
