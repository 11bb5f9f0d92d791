use Rattle.std.proofs.Common.{◌<◌, Some, length, ap, sym, ◌∙◌, arith}
use Rattle.std.proofs.lemmas.Option.{slice_get-get_or}
use Rattle.earley.proofs.RowStepLemmas.{nothing_predicted, call_predicts, step_here, call_here, no_call_here}
use Rattle.earley.proofs.row_step.predict_row.Goals as goal

pub returns-in-None : goal.returns-in-None
returns-in-None c row some j has one =
    let h = step_here c.args.table.now.flat.value c.args.table.now.dots.items c.args.table.now.steps.items
    c.requires.table.steps c.args.position c.index.result.now c.requires.position c.index.ensures in
    nothing_predicted c.args.table.now.flat.value c.args.table.now.dots.items c.args.position row h.at h.is
    c.args.set.now c.args.set.now j
    (no_call_here c.args.table.now.flat.value c.args.table.now.dots.items h.at c.index.result.now h.reports
    c.in-None.is)

pub returns-in_ok-predict_target-in-Some : goal.returns-in_ok-predict_target-in-Some
returns-in_ok-predict_target-in-Some c row some j has one =
    let h = step_here c.args.table.now.flat.value c.args.table.now.dots.items c.args.table.now.steps.items
    c.requires.table.steps c.args.position c.index.result.now c.requires.position c.index.ensures in
    call_predicts c.args.table.now.flat.value c.args.table.now.dots.items c.args.position row h.at h.is
    c.args.set.now c.predict_target.new.set c.in-Some.called
    (call_here c.args.table.now.flat.value c.args.table.now.dots.items h.at c.index.result.now c.in-Some.called
    h.reports
    c.in-Some.is) j some c.args.here.now has one c.in_ok-predict_target-in-Some.ensures

pub predict_target-requires-clause-reached : goal.predict_target-requires-clause-reached
predict_target-requires-clause-reached c =
    let count = c.requires.table.steps.count in
    let lt = c.requires.position in
    let low : c.args.position < length c.args.table.now.steps.items = omega (arith, lt, count) in
    c.requires.table.reached c.args.position c.index.result.now c.in-Some.called
    (slice_get-get_or c.args.table.now.steps.items c.args.position c.index.result.now low
    ∙ ap Some (sym c.index.ensures)) c.in-Some.is
