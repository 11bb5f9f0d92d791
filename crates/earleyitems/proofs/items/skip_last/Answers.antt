use Rattle.std.proofs.Common.{arith, rules}
use Rattle.earleyitems.proofs.ListAllLemmas.{chain_within, chain_next, skipped_start, skipped_next}
use Rattle.earleyitems.proofs.items.skip_last.Goals as goal

pub loop-at-init : goal.loop-at-init
loop-at-init c = record {
  order = omega arith;
  skipped = λ es chain. skipped_start c.args.waiters.now c.args.first es c.args.list.now chain;
}

pub bounds-waiters-at : goal.bounds-waiters-at
bounds-waiters-at c =
    let p = c.loop-at.invariant.skipped c.requires.chain.0 c.requires.chain.1 in
    let le = chain_within p.chain in
    let pos = c.loop-at-test.true in
    omega (arith, le, pos)

pub offset_bounds-waiters-at : goal.offset_bounds-waiters-at
offset_bounds-waiters-at c = let lt = bounds-waiters-at c in search (rules, lt)

pub loop-at-smaller : goal.loop-at-smaller
loop-at-smaller c =
    (chain_next _ (c.loop-at.invariant.skipped c.requires.chain.0 c.requires.chain.1).chain c.loop-at-test.true).less

pub loop-at-preserved : goal.loop-at-preserved
loop-at-preserved c =
    let less = (chain_next (record { item = record { node = 0; step = 0; origin = 0 }; owner = 0; next = 0 })
    (c.loop-at.invariant.skipped c.requires.chain.0 c.requires.chain.1).chain c.loop-at-test.true).less in
    let order = c.loop-at.invariant.order in
    record {
      order = omega (arith, less, order);
      skipped = λ es chain. skipped_next c.args.waiters.now c.loop-at.at es c.args.list.now
          (record { item = record { node = 0; step = 0; origin = 0 }; owner = 0; next = 0 })
          (c.loop-at.invariant.skipped es chain) c.loop-at-test.true (c.is_last.ensures c.if-not-is_last.false);
    }
