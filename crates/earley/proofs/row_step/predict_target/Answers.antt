use Rattle.std.proofs.Common.{◌<◌, slice_index_or, subst, sym, ◌∙◌, arith}
use Rattle.earleyitems.proofs.ExpandLemmas.{take_past}
use Rattle.earley.proofs.DotTableLemmas.{reached_starts}
use Rattle.earley.proofs.RowStepLemmas.{StartsIn, starts_none, starts_next, starts_all, no_starts, start_below}
use Rattle.earley.proofs.RowStepLemmas.{found_at, missing_past}
use Rattle.earley.specs.RowItems.{Gains}
use Rattle.earley.proofs.row_step.predict_target.Goals as goal

pub loop-position-init : goal.loop-position-init
loop-position-init c = record {
  count = c.requires.count;
  gains = starts_none c.args.table.now.dots.items c.deref-position-items.result.now c.args.here.now c.args.set.now;
}

pub loop-position-preserved : goal.loop-position-preserved
loop-position-preserved c = record {
  count = c.in_ok-add.ensures.count ∙ c.loop-position.invariant.count;
  gains = starts_next c.args.table.now.dots.items c.deref-position-items.result.now c.args.here.now c.args.set.now
      c.loop-position.position-index 0 c.loop-position.set c.add.new.self c.loop-position-test.true
      c.loop-position.invariant.gains
      c.in_ok-add.ensures;
}

pub add-requires : goal.add-requires
add-requires c =
    let look = rw c.deref.ensures.value at c.in-Some.ensures.lookup in
    let is = found_at c.args.table.now.targets.items c.args.target c.in-Some.positions.now look.0 look.1 in
    subst (λ v. slice_index_or c.deref-position-items.result.now c.loop-position.position-index 0 < v)
    (sym c.loop-position.invariant.count)
    (start_below c.args.table.now.flat.value c.args.table.now.dots.items c.args.target
    c.in-Some.positions.now.starts.items
    c.deref-position-items.result.now c.loop-position.position-index 0
    (reached_starts c.args.table.now.flat.value c.args.table.now.dots.items c.args.table.now.steps.items
    c.args.table.now.targets.items c.args.target c.in-Some.positions.now
    (c.requires.table.targets.each c.args.target c.in-Some.positions.now is) c.requires.reached is)
    c.deref-position-items.ensures.value
    c.loop-position-test.true)

pub returns : goal.returns
returns c =
    let look = rw c.deref.ensures.value at c.in-Some.ensures.lookup in
    let is = found_at c.args.table.now.targets.items c.args.target c.in-Some.positions.now look.0 look.1 in
    starts_all c.args.table.now.flat.value c.args.table.now.dots.items c.args.target
    c.in-Some.positions.now.starts.items
    c.args.here.now c.args.set.now c.loop-position.set
    (reached_starts c.args.table.now.flat.value c.args.table.now.dots.items c.args.table.now.steps.items
    c.args.table.now.targets.items c.args.target c.in-Some.positions.now
    (c.requires.table.targets.each c.args.target c.in-Some.positions.now is) c.requires.reached is)
    (subst (λ v. Gains c.args.table.now.dots.items (StartsIn c.args.table.now.dots.items v c.args.here.now)
    c.args.set.now c.loop-position.set)
    (take_past c.deref-position-items.result.now c.loop-position.position-index c.loop-position-test.false
    ∙ c.deref-position-items.ensures.value) c.loop-position.invariant.gains)

pub returns-in_default : goal.returns-in_default
returns-in_default c =
    let look = rw c.deref.ensures.value at c.in_default.ensures.lookup in
    let past = missing_past c.args.table.now.targets.items c.args.target look.0 in
    no_starts c.args.table.now.flat.value c.args.table.now.dots.items c.args.target c.args.here.now c.args.set.now
    (let count = c.requires.table.targets.count in omega (arith, past, count))
