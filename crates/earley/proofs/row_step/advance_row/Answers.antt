use Rattle.std.proofs.Common.{◌<◌, ℕ, subst, sym}
use Rattle.flatgrammar.proofs.CallOfLemmas.{get_below}
use Rattle.earley.proofs.RowStepLemmas.{nothing_advanced, free_advances, not_free, step_here, call_here, no_call_here}
use Rattle.earley.proofs.row_step.advance_row.Goals as goal

pub returns-in_default : goal.returns-in_default
returns-in_default c =
    let h = step_here c.args.table.now.flat.value c.args.table.now.dots.items c.args.table.now.steps.items
    c.requires.table.steps c.args.position c.index.result.now c.requires.position c.index.ensures in
    not_free c.args.table.now.flat.value c.args.table.now.dots.items c.args.position c.args.row.now h.at h.is
    c.args.set.now c.args.set.now c.in-Some.called
    (call_here c.args.table.now.flat.value c.args.table.now.dots.items h.at c.index.result.now c.in-Some.called
    h.reports
    c.in-Some.is) (λ yes. let no = c.if-called.false in absurd (cc (yes, no)))

pub returns-in_default-2 : goal.returns-in_default-2
returns-in_default-2 c =
    let h = step_here c.args.table.now.flat.value c.args.table.now.dots.items c.args.table.now.steps.items
    c.requires.table.steps c.args.position c.index.result.now c.requires.position c.index.ensures in
    nothing_advanced c.args.table.now.flat.value c.args.table.now.dots.items c.args.position c.args.row.now h.at h.is
    c.args.set.now c.args.set.now
    (no_call_here c.args.table.now.flat.value c.args.table.now.dots.items h.at c.index.result.now h.reports
    c.in_default.is)

pub add-requires : goal.add-requires
add-requires c =
    let h = step_here c.args.table.now.flat.value c.args.table.now.dots.items c.args.table.now.steps.items
    c.requires.table.steps c.args.position c.index.result.now c.requires.position c.index.ensures in
    let call = call_here c.args.table.now.flat.value c.args.table.now.dots.items h.at c.index.result.now
    c.in-Some.called
    h.reports c.in-Some.is in
    subst (λ (v : ℕ). c.in-Some.called.after < v) (sym c.requires.count)
    (get_below c.args.table.now.dots.items c.in-Some.called.after call.after)

pub returns-in_ok-add-in-Some : goal.returns-in_ok-add-in-Some
returns-in_ok-add-in-Some c =
    let h = step_here c.args.table.now.flat.value c.args.table.now.dots.items c.args.table.now.steps.items
    c.requires.table.steps c.args.position c.index.result.now c.requires.position c.index.ensures in
    free_advances c.args.table.now.flat.value c.args.table.now.dots.items c.args.position c.args.row.now h.at h.is
    c.args.set.now c.add.new.self c.in-Some.called
    (call_here c.args.table.now.flat.value c.args.table.now.dots.items h.at c.index.result.now c.in-Some.called
    h.reports
    c.in-Some.is) c.if-called.true c.in_ok-add-in-Some.ensures
