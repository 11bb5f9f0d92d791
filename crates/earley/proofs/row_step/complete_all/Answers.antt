use Rattle.std.proofs.Common.{length, subst, ◌∙◌, arith}
use Rattle.earleyitems.proofs.ExpandLemmas.{take_past}
use Rattle.earley.specs.RowIndexes.{IsAfterSome}
use Rattle.earley.specs.RowItems.{Gains}
use Rattle.earley.proofs.IsAfterInLemmas.{some_none, some_next, some_completed, none_completed}
use Rattle.earley.proofs.RowStepLemmas.{call_below, found_at, missing_past}
use Rattle.earley.proofs.row_step.complete_all.Goals as goal

pub loop-call-init : goal.loop-call-init
loop-call-init c = record {
  count = c.requires.count;
  gains = some_none c.args.table.now.dots.items c.deref-call-items.result.now c.args.filled.now.sets.items
      c.args.row.now (length c.args.filled.now.sets.items) c.args.set.now;
}

pub loop-call-preserved : goal.loop-call-preserved
loop-call-preserved c =
    let now = c.in_ok-complete_call.ensures (length c.args.table.now.dots.items) c.requires.indexed
    c.args.table.now.dots.items in record {
      count = now.count ∙ c.loop-call.invariant.count;
      gains = some_next c.args.table.now.dots.items c.deref-call-items.result.now c.args.filled.now.sets.items
          c.args.row.now (length c.args.filled.now.sets.items) c.args.set.now c.loop-call.call-index _ c.loop-call.set
          c.complete_call.new.set c.loop-call-test.true c.loop-call.invariant.gains now;
    }

pub complete_call-requires : goal.complete_call-requires
complete_call-requires c =
    let look = rw c.deref.ensures.value at c.in-Some.ensures.lookup in
    let is = found_at c.args.table.now.targets.items c.args.target c.in-Some.positions.now look.0 look.1 in
    let lt = call_below c.args.table.now.flat.value c.args.table.now.dots.items c.args.table.now.steps.items
    c.args.target
    c.in-Some.positions.now.calls.items c.deref-call-items.result.now c.loop-call.call-index _ c.requires.table.steps
    (c.requires.table.targets.each c.args.target c.in-Some.positions.now is).calls c.deref-call-items.ensures.value
    c.loop-call-test.true in
    rw c.loop-call.invariant.count lt

pub returns : goal.returns
returns c =
    let look = rw c.deref.ensures.value at c.in-Some.ensures.lookup in
    let is = found_at c.args.table.now.targets.items c.args.target c.in-Some.positions.now look.0 look.1 in
    some_completed c.args.table.now.flat.value c.args.table.now.dots.items c.args.table.now.steps.items
    c.requires.table.steps c.args.target c.args.filled.now.sets.items c.args.row.now
    (length c.args.filled.now.sets.items) c.args.set.now c.in-Some.positions.now.calls.items
    (c.requires.table.targets.each c.args.target c.in-Some.positions.now is).calls c.loop-call.set
    (subst (λ v. Gains c.args.table.now.dots.items (IsAfterSome c.args.table.now.dots.items v
    c.args.filled.now.sets.items c.args.row.now (length c.args.filled.now.sets.items)) c.args.set.now c.loop-call.set)
    (take_past c.deref-call-items.result.now c.loop-call.call-index c.loop-call-test.false
    ∙ c.deref-call-items.ensures.value) c.loop-call.invariant.gains)

pub returns-in_default : goal.returns-in_default
returns-in_default c =
    let look = rw c.deref.ensures.value at c.in_default.ensures.lookup in
    let past = missing_past c.args.table.now.targets.items c.args.target look.0 in
    none_completed c.args.table.now.flat.value c.args.table.now.dots.items c.args.table.now.steps.items
    c.requires.table.steps c.args.target c.args.filled.now.sets.items c.args.row.now
    (length c.args.filled.now.sets.items) c.args.set.now
    (let count = c.requires.table.targets.count in omega (arith, past, count))
