use Rattle.std.proofs.Common.{◌≡◌, ◌≤◌, ◌-◌, ℕ, Bool, List, arith, drop, length, map}
use Rattle.std.proofs.lemmas.List.{length-drop}
use Rattle.abnfblocks.specs.TextLines.{numbered}
use Rattle.abnfblocks.specs.declared.found.RuleSearch.{RuleSearch}
use Rattle.rfcvalues.specs.RuleSketches.{SketchedRule}
use Rattle.abnftexts.specs.TakenRules.{join_first}
use Rattle.abnftexts.specs.ValueRuns.{found_rules}
use Rattle.abnftexts.proofs.ValueRunsLemmas.{run-ends, run-grows, run-whole}
use Rattle.abnftexts.proofs.values.run_size.Goals as goal

-- what the code finds of the rest, with the sketches of the rest
joins-rest : (join : List RuleSearch → List SketchedRule → List Bool → Bool) (found front : List RuleSearch)
    (values marks : List Bool) (n : ℕ) (joins : Bool) → front ≡ drop n found → marks ≡ drop n values
    → ((sketches : List SketchedRule) → length front ≤ length sketches → joins ≡ join front sketches marks)
    → (sketches : List SketchedRule) → length found ≤ length sketches
    → joins ≡ join (drop n found) (drop n sketches) (drop n values)
joins-rest join found front values marks n joins e f h sketches few =
    let low : length front ≤ length (drop n sketches) =
    rw e (omega (arith, length-drop n found, length-drop n sketches, few)) in
    rw (e, f) at (h (drop n sketches) low)

pub loop-size-init : goal.loop-size-init
loop-size-init c = λ sketches few enough. omega arith

pub loop-size-preserved : goal.loop-size-preserved
loop-size-preserved c = λ sketches few enough.
    let lines = map numbered c.args.lines.now in
    let size = c.loop-size.size in
    let joins = joins-rest (λ found own marks. join_first lines (found_rules found own marks)) c.args.found.now
    c.items_after-front.result.now c.args.values.now c.items_after.result.now (size - 1) c.join_values-joins.result
    c.items_after-front.ensures c.items_after.ensures c.join_values-joins.ensures sketches few in
    run-grows lines c.args.found.now sketches c.args.values.now size c.join_values-joins.result c.loop-size.auto.size
    c.if-not-joins.false joins (c.loop-size.invariant sketches) few enough

pub returns-then-not-joins-clause-group : goal.returns-then-not-joins-clause-group
returns-then-not-joins-clause-group c = λ sketches some few enough.
    let lines = map numbered c.args.lines.now in
    let size = c.loop-size.size in
    let joins = joins-rest (λ found own marks. join_first lines (found_rules found own marks)) c.args.found.now
    c.items_after-front.result.now c.args.values.now c.items_after.result.now (size - 1) c.join_values-joins.result
    c.items_after-front.ensures c.items_after.ensures c.join_values-joins.ensures sketches few in
    run-ends lines c.args.found.now sketches c.args.values.now size c.join_values-joins.result c.loop-size.auto.size
    c.if-not-joins.true joins (c.loop-size.invariant sketches) some few enough

pub returns-clause-group : goal.returns-clause-group
returns-clause-group c = λ sketches some few enough.
    run-whole (map numbered c.args.lines.now) c.args.found.now sketches c.args.values.now c.loop-size.size
    c.loop-size-test.false c.loop-size.auto.size-end (c.loop-size.invariant sketches) some few enough
