use Rattle.std.proofs.Common.{◌+◌, ◌^◌, ◌<◌, sym, ◌∙◌, subst, arith}
use Rattle.std.proofs.lemmas.List.{with_items_is}
use Rattle.earleyitems.specs.ItemBuckets.{item_bucket, AreBuckets}
use Rattle.earleyitems.proofs.AreBucketsLemmas.{linked_within}
use Rattle.earleyitems.proofs.items.put.Goals as goal
use Rattle.earleyitems.proofs.items.put.Goals.{then-len-room+else-room-eq0+in_ok-link, else-len-room}

pub returns-then-len-lt-LINEAR-clause-buckets : goal.returns-then-len-lt-LINEAR-clause-buckets
returns-then-len-lt-LINEAR-clause-buckets c =
    let none = c.if-room-eq0.true in
    record {
      within = c.add_linear.ensures.more c.args.buckets.now.items c.args.base.now c.requires.within;
      linked = λ lt. absurd (omega (arith, none, lt));
      fits = c.requires.fits;
    }

pub returns-clause-buckets : goal.returns-clause-buckets
returns-clause-buckets c =
    let fits : c.if-len-room.base + c.if-len-room.room < 2 ^ 64 = elim c.if-len-room.branch [
      | then-len-room+else-room-eq0+in_ok-link w ↦ rw (w.base-is, w.room-is) w.in_ok-link.ensures.buckets.fits
      | else-len-room w ↦ rw (w.base-is, w.room-is) c.requires.fits
    ] in
    let linked = c.insert.ensures.linked in
    subst (λ v. AreBuckets c.insert.new.list.items c.insert.new.links.items v c.if-len-room.base c.if-len-room.room)
    (sym (with_items_is c.if-len-room.buckets c.insert.new.buckets (c.insert.auto.buckets ∙ c.deref_mut.ensures.len)))
    (record { within = linked_within (item_bucket _) _ _ _ _ linked; linked = λ few. linked; fits = fits })
