use Rattle.std.proofs.Common.{◌≡◌, length, length-set, Some, subst, arith, slice_get}
use Rattle.earleyitems.specs.ItemBuckets.{item_bucket}
use Rattle.earleyitems.proofs.AreBucketsLemmas.{linked_same, linked_push}
use Rattle.earleyitems.proofs.items.push.Goals as goal

pub returns-in_err-push-clause-linked : goal.returns-in_err-push-clause-linked
returns-in_err-push-clause-linked c =
    let count : c.len-index.result ≡ length c.args.list.now.items =
    (let e = c.len-index.ensures in let o = c.args.list.now.ok.0 in omega (arith, e, o)) in
    let long = c.in_ok-set_entry.ensures.long in
    let was = c.requires.linked.long in
    rw (c.in_err-push.ensures.items) (linked_same (item_bucket (length c.args.buckets.now)) c.args.list.now.items
    c.args.links.now.items c.set_entry.new.links.items c.args.buckets.now c.args.base c.requires.linked
    (omega (arith, long, was)) (λ i l lt g. c.in_ok-set_entry.ensures.others i l (omega (arith, lt, count)) g))

pub returns-clause-linked : goal.returns-clause-linked
returns-clause-linked c =
    let count : c.len-index.result ≡ length c.args.list.now.items =
    (let e = c.len-index.ensures in let o = c.args.list.now.ok.0 in omega (arith, e, o)) in
    let long = c.in_ok-set_entry.ensures.long in
    let was = c.requires.linked.long in
    let links = linked_same (item_bucket (length c.args.buckets.now)) c.args.list.now.items c.args.links.now.items
    c.set_entry.new.links.items c.args.buckets.now c.args.base c.requires.linked
    (omega (arith, long, was)) (λ i l lt g. c.in_ok-set_entry.ensures.others i l (omega (arith, lt, count)) g) in
    let here = subst (λ n. slice_get c.set_entry.new.links.items n ≡ Some c.args.last) count
    c.in_ok-set_entry.ensures.here in
    rw (
      c.in_ok-push.ensures.items,
      c.item_bucket-bucket.ensures.value,
      length-set c.args.buckets.now (item_bucket (length c.args.buckets.now) c.args.item) _,
    )
    (linked_push (item_bucket (length c.args.buckets.now)) c.args.list.now.items c.set_entry.new.links.items
    c.args.buckets.now
    c.args.base c.args.item c.args.last _ links here c.requires.last (omega (arith, count)))
