use Rattle.std.proofs.Common.{ℕ, List}
use Rattle.earleyitems.specs.ItemBuckets.{item_bucket, AreLinked}
use Rattle.earleyitems.proofs.AreBucketsLemmas.{IsSought}
use Rattle.earleyitems.proofs.items.stands.Given as goal

abbrev pub invariant-loop-at : goal.invariant-loop-at
invariant-loop-at l = (count : ℕ)
    × (((buckets : List ℕ) × ((base : ℕ) × (AreLinked (item_bucket count) l.list l.links buckets base)))
    × IsSought (item_bucket count) l.list l.item l.at)

abbrev pub decreases-loop-at : goal.decreases-loop-at
decreases-loop-at l = l.at
