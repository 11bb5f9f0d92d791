use Rattle.std.proofs.Common.{[], sym, subst}
use Rattle.earleyitems.specs.ItemBuckets.{AreWithin}
use Rattle.earleyitems.proofs.AreBucketsLemmas.{within_kept, within_more}
use Rattle.earleyitems.proofs.items.prepare.Goals as goal

pub returns-in_err-make_room-clause-within : goal.returns-in_err-make_room-clause-within
returns-in_err-make_room-clause-within c = within_more c.args.list.now c.make_room.new.buckets.items c.args.base
    (within_kept [] c.args.buckets.now.items c.make_room.new.buckets.items c.args.base c.in_err-make_room.ensures.kept
    c.requires.none)

pub relink-requires-clause-none : goal.relink-requires-clause-none
relink-requires-clause-none c =
    subst (λ v. AreWithin [] v c.args.base) (sym c.deref_mut-2.ensures.value)
    (within_kept [] c.args.buckets.now.items c.make_room.new.buckets.items c.args.base c.in_ok-make_room.ensures.kept
    c.requires.none)
