use Rattle.std.proofs.Common.{◌-◌, ◌<◌, arith, rules}
use Rattle.earleyitems.proofs.AreBucketsLemmas.{get_index}
use Rattle.earleyitems.proofs.ListAllLemmas.{chain_within, chain_next, along_start, along_next, along_skipped}
use Rattle.earleyitems.proofs.ListAllLemmas.{along_end}
use Rattle.earleyitems.proofs.fill.complete_listed.Goals as goal

pub loop-at-init : goal.loop-at-init
loop-at-init c = record {
  along = λ es chain. along_start c.args.waiters.now c.args.first es c.args.set.now.items chain;
  order = omega arith;
  owners = λ flat rows first are. are;
}

pub bounds-waiters-at : goal.bounds-waiters-at
bounds-waiters-at c =
    let a = c.loop-at.invariant.along c.requires.0 c.requires.1 in
    let le = chain_within a.chain in
    let pos = c.loop-at-test.true in
    omega (arith, le, pos)

pub offset_bounds-waiters-at : goal.offset_bounds-waiters-at
offset_bounds-waiters-at c = let lt = bounds-waiters-at c in search (rules, lt)

pub skip_from-at-requires : goal.skip_from-at-requires
skip_from-at-requires c =
    let n = chain_next _ (c.loop-at.invariant.along c.requires.0 c.requires.1).chain c.loop-at-test.true in
    (n.rest, n.chain)

pub loop-at-smaller : goal.loop-at-smaller
loop-at-smaller c =
    let less = (chain_next (record { item = record { node = 0; step = 0; origin = 0 }; owner = 0; next = 0 })
    (c.loop-at.invariant.along c.requires.0 c.requires.1).chain c.loop-at-test.true).less in
    let order = c.skip_from-at.ensures.order in
    omega (arith, less, order)

pub loop-at-preserved : goal.loop-at-preserved
loop-at-preserved c =
    let less = (chain_next (record { item = record { node = 0; step = 0; origin = 0 }; owner = 0; next = 0 })
    (c.loop-at.invariant.along c.requires.0 c.requires.1).chain c.loop-at-test.true).less in
    let le = chain_within (c.loop-at.invariant.along c.requires.0 c.requires.1).chain in
    let pos = c.loop-at-test.true in
    let order = c.skip_from-at.ensures.order in
    let was = c.loop-at.invariant.order in
    let lower : c.loop-at.at - 1 < c.args.first = omega (arith, pos, was) in
    record {
      along = λ es chain.
          let along = along_next c.args.waiters.now c.loop-at.at es _ _ _ _ (c.loop-at.invariant.along es chain)
          c.loop-at-test.true c.in_ok-add.ensures.added in
          along_skipped c.args.waiters.now _ _ es _ _ along (c.skip_from-at.ensures.skipped along.rest along.chain);
      order = omega (arith, less, order, was);
      owners = λ flat rows first are. c.in_ok-add.ensures.owners flat rows
          (first (c.loop-at.at - 1) _ lower
          (get_index c.args.waiters.now (c.loop-at.at - 1) _ (omega (arith, le, pos))))
          (c.loop-at.invariant.owners flat rows first are);
    }

pub returns-clause-added : goal.returns-clause-added
returns-clause-added c es chain = along_end c.args.waiters.now c.loop-at.at es _ _ (c.loop-at.invariant.along es chain)
    (let test = c.loop-at-test.false in omega (arith, test))

pub returns-clause-owners : goal.returns-clause-owners
returns-clause-owners c flat rows first are = c.loop-at.invariant.owners flat rows first are
