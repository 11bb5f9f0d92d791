use Rattle.std.proofs.Common.{length, length-set, take, subst, arith}
use Rattle.earleyitems.specs.ItemBuckets.{item_bucket, IsLast}
use Rattle.earleyitems.proofs.AreBucketsLemmas.{get_index, linked_next, last_reported, within_set}
use Rattle.earleyitems.proofs.items.relink.Goals as goal

pub loop-i-preserved : goal.loop-i-preserved
loop-i-preserved c =
    let links = length-set c.loop-i.links c.loop-i.i c.saturating_sub.result in
    let buckets = length-set c.loop-i.buckets c.item_bucket-bucket.result c.in-Some.reported in
    let long = c.loop-i.invariant.long in
    let test = c.loop-i-test.true in
    let reports = c.in-Some.ensures.1 in
    let at_bucket = last_reported (item_bucket (length c.loop-i.buckets))
    (take c.loop-i.i c.args.list.now) c.loop-i.links
    c.loop-i.buckets c.args.base c.item_bucket-bucket.result 0 c.loop-i.invariant.linked
    c.item_bucket-bucket.ensures.within in
    let at_last = subst
    (λ n. IsLast (item_bucket (length c.loop-i.buckets)) (take c.loop-i.i c.args.list.now)
    (length (take c.loop-i.i c.args.list.now)) n c.saturating_sub.result) c.item_bucket-bucket.ensures.value
    (rw c.saturating_sub.ensures at_bucket) in
    record {
      linked = rw (buckets, c.item_bucket-bucket.ensures.value)
          (linked_next (item_bucket (length c.loop-i.buckets)) c.args.list.now c.loop-i.links c.loop-i.buckets
          c.args.base
          c.loop-i.i c.saturating_sub.result c.in-Some.reported _
          (get_index c.args.list.now c.loop-i.i (record { node = 0; step = 0; origin = 0 }) test) long
          c.loop-i.invariant.linked at_last reports);
      within = within_set c.args.list.now c.loop-i.buckets c.args.base c.item_bucket-bucket.result c.in-Some.reported
          (omega (arith, reports, test)) c.loop-i.invariant.within;
      long = omega (arith, links, long);
    }
