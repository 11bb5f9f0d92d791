use Rattle.std.proofs.lemmas.Option.{slice_get-get_or}
use Rattle.lazydfa.proofs.ContsLemmas.{kept_same, kept_both, kept_within}
use Rattle.lazydfa.proofs.IsClosureLemmas.{contains_at}
use Rattle.lazydfa.proofs.StackCutsLemmas.{joined_all, joined_next, joined_none}
use Rattle.lazydfa.proofs.cuts.join_all.Goals as goal

pub loop-suffix-init : goal.loop-suffix-init
loop-suffix-init c = (
  kept_same c.args.conts.now.items.items,
  joined_none c.args.conts.now.items.items c.args.tops.now c.args.suffixes.now c.empty.new.ids.items.items
      c.new-joined.result.items c.empty.ensures c.new-joined.ensures.items,
)

pub move_all-requires-clause-within : goal.move_all-requires-clause-within
move_all-requires-clause-within c id h =
    kept_within c.args.conts.now.items.items c.loop-suffix.conts.items.items c.loop-suffix.invariant.0 id
    (c.requires.tops_within id h)

pub move_all-requires-clause-on : goal.move_all-requires-clause-on
move_all-requires-clause-on c =
    kept_within c.args.conts.now.items.items c.loop-suffix.conts.items.items c.loop-suffix.invariant.0 _
    (c.requires.suffixes_within _ (contains_at c.args.suffixes.now c.loop-suffix.suffix-index _
    (slice_get-get_or c.args.suffixes.now c.loop-suffix.suffix-index 0 c.loop-suffix-test.true)))

pub move_all-requires-clause-older : goal.move_all-requires-clause-older
move_all-requires-clause-older c = c.loop-suffix.invariant.0.older c.requires.older

pub returns-then-not-branch-clause-kept : goal.returns-then-not-branch-clause-kept
returns-then-not-branch-clause-kept c =
    kept_both c.args.conts.now.items.items c.loop-suffix.conts.items.items c.move_all.new.conts.items.items
    c.loop-suffix.invariant.0 c.in_ok-move_all.ensures.kept

pub loop-suffix-preserved : goal.loop-suffix-preserved
loop-suffix-preserved c =
    let at_suffix = slice_get-get_or c.args.suffixes.now c.loop-suffix.suffix-index 0 c.loop-suffix-test.true in (
      kept_both c.args.conts.now.items.items c.loop-suffix.conts.items.items c.move_all.new.conts.items.items
          c.loop-suffix.invariant.0 c.in_ok-move_all.ensures.kept,
      joined_next c.args.conts.now.items.items c.loop-suffix.conts.items.items c.move_all.new.conts.items.items
          c.loop-suffix.invariant.0 c.in_ok-move_all.ensures.kept c.args.tops.now c.args.suffixes.now
          c.requires.tops_within c.requires.suffixes_within c.loop-suffix.ids.items.items c.add.new.ids.items.items
          c.loop-suffix.joined.items c.move_all.new.ids.items c.loop-suffix.suffix-index _ at_suffix
          (contains_at c.args.suffixes.now c.loop-suffix.suffix-index _ at_suffix) c.loop-suffix.invariant.1
          c.in_ok-add.ensures (c.in_ok-move_all.ensures.moved c.if-not-branch.false),
    )

pub returns-clause-joined : goal.returns-clause-joined
returns-clause-joined c =
    joined_all c.args.conts.now.items.items c.loop-suffix.conts.items.items c.args.tops.now c.args.suffixes.now
    c.loop-suffix.ids.items.items c.loop-suffix.joined.items c.loop-suffix.suffix-index c.loop-suffix-test.false
    c.loop-suffix.invariant.1
