use Rattle.std.proofs.Common.{◌-◌, ◌<◌, length, Some, ap, ◌∙◌, arith, slice_index_or}
use Rattle.earleyitems.proofs.AreBucketsLemmas.{get_in, get_index}
use Rattle.earleyitems.proofs.items.is_last.Goals as goal

pub returns : goal.returns
returns c t =
    let list = c.args.list.now in
    let buckets = c.args.buckets.now in
    let bucket = c.item_bucket.result in
    let at = get_index buckets bucket 0 c.item_bucket.ensures.within in
    let le = c.requires bucket (slice_index_or buckets bucket 0) at in
    let last = c.saturating_sub-last.ensures in
    let pos = c.if-last-eq0.false in
    let lt : c.saturating_sub-last.result - 1 < length list = omega (arith, le, last, pos) in
    get_in c.args.item list (c.saturating_sub-last.result - 1)
    (get_index list (c.saturating_sub-last.result - 1) _ lt ∙ ap Some (c.same.ensures.0 t))
