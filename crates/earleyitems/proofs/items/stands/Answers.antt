use Rattle.std.proofs.Common.{◌-◌, Some, ap, ◌∙◌, refl, arith}
use Rattle.earleyitems.specs.ItemBuckets.{item_bucket}
use Rattle.earleyitems.proofs.AreBucketsLemmas.{get_in, get_index, sought_start, sought_step, sought_none}
use Rattle.earleyitems.proofs.items.stands.Goals as goal

pub loop-at-init : goal.loop-at-init
loop-at-init c = (
  c.requires.count,
  (
    (c.requires.buckets, (c.requires.base, c.requires.linked)),
    sought_start (item_bucket c.requires.count) c.args.list.now c.args.item c.args.last c.requires.is_last,
  ),
)

pub returns-then-same : goal.returns-then-same
returns-then-same c =
    let within = c.loop-at.invariant.1.1.within in
    let pos = c.loop-at-test.true in (
      (λ u. get_in c.args.item c.args.list.now (c.loop-at.at - 1)
          (get_index c.args.list.now (c.loop-at.at - 1) _ (omega (arith, within, pos))
          ∙ ap Some (c.same.ensures.0 c.if-same.true))),
      (λ h. refl),
    )

pub loop-at-smaller : goal.loop-at-smaller
loop-at-smaller c =
    let here = c.loop-at.invariant in
    (sought_step (item_bucket here.0) c.args.list.now c.args.links.now c.args.item c.loop-at.at _ _ here.1.0 here.1.1
    c.loop-at-test.true (λ same. let t = c.same.ensures.1 same in let f = c.if-same.false in absurd cc)).0

pub loop-at-preserved : goal.loop-at-preserved
loop-at-preserved c =
    let here = c.loop-at.invariant in (
      here.0,
      (
        here.1.0,
        (sought_step (item_bucket here.0) c.args.list.now c.args.links.now c.args.item c.loop-at.at _ _ here.1.0
            here.1.1 c.loop-at-test.true
            (λ same. let t = c.same.ensures.1 same in let f = c.if-same.false in absurd cc)).1,
      ),
    )

pub returns : goal.returns
returns c =
    let test = c.loop-at-test.false in (
      (λ t. absurd cc),
      (λ h. absurd (sought_none (item_bucket c.loop-at.invariant.0) c.args.list.now c.args.item c.loop-at.at
          (omega (arith, test)) c.loop-at.invariant.1.1 h)),
    )
