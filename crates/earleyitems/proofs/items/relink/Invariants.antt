use Rattle.std.proofs.Common.{◌≤◌, length, take}
use Rattle.earleyitems.specs.ItemBuckets.{AreLinked, AreWithin, item_bucket}
use Rattle.earleyitems.proofs.items.relink.Given as goal

abbrev pub invariant-loop-i : goal.invariant-loop-i
invariant-loop-i l = record {
  linked : AreLinked (item_bucket (length l.buckets)) (take l.i l.list) l.links l.buckets l.base;
  within : AreWithin l.list l.buckets l.base;
  long : length l.list ≤ length l.links;
}
