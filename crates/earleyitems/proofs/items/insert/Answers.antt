use Rattle.std.proofs.Common.{◌≡◌, length, sym, subst}
use Rattle.flatgrammar.specs.Positions.{In}
use Rattle.earleyitems.specs.ItemBuckets.{item_bucket, IsLast}
use Rattle.earleyitems.specs.ItemSets.{Adds}
use Rattle.earleyitems.proofs.AreBucketsLemmas.{last_reported}
use Rattle.earleyitems.proofs.AddsLemmas.{adds_one}
use Rattle.earleyitems.proofs.items.insert.Goals as goal

pub returns-in_ok-push-clause-added : goal.returns-in_ok-push-clause-added
returns-in_ok-push-clause-added c =
    subst (λ v. Adds (λ a. a ≡ c.args.item) c.args.list.now.items v) (sym c.in_ok-push.ensures.pushed)
    (adds_one c.args.item c.args.list.now.items
    (λ h. let t = c.stands.ensures.1 (subst (λ v. In c.args.item v) (sym c.deref.ensures.value) h) in let f =
    c.if-not-stands.true in absurd cc))

pub stands-requires : goal.stands-requires
stands-requires c =
    let buckets = c.args.buckets.now in
    let list = c.args.list.now.items in
    let at_bucket = last_reported (item_bucket (length buckets)) list c.args.links.now.items buckets c.args.base
    c.item_bucket.result 0 c.requires.linked c.item_bucket.ensures.within in
    let at_last = subst (λ n. IsLast (item_bucket (length buckets)) list (length list) n c.saturating_sub-last.result)
    c.item_bucket.ensures.value (rw c.saturating_sub-last.ensures at_bucket) in
    rw (c.deref.ensures.value, c.deref-2.ensures.value) (record {
      count = length buckets;
      buckets = buckets;
      base = c.args.base;
      linked = c.requires.linked;
      is_last = at_last;
    })
