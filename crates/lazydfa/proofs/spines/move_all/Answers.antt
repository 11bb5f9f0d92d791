use Rattle.std.proofs.lemmas.Option.{slice_get-get_or}
use Rattle.lazydfa.proofs.ContsLemmas.{kept_same, kept_both, kept_within}
use Rattle.lazydfa.proofs.IsClosureLemmas.{contains_at}
use Rattle.lazydfa.proofs.IsMoveOnLemmas.{moved_none, moved_next, moved_all}
use Rattle.lazydfa.proofs.spines.move_all.Goals as goal

pub loop-top-init : goal.loop-top-init
loop-top-init c = (
  kept_same c.args.conts.now.items.items,
  moved_none c.args.conts.now.items.items c.args.conts.now.items.items c.args.tops.now c.args.way.off c.args.way.on
      c.args.ids.now.items,
)

pub move_one-requires-clause-within : goal.move_one-requires-clause-within
move_one-requires-clause-within c =
    kept_within c.args.conts.now.items.items c.loop-top.conts.items.items c.loop-top.invariant.0 _
    (c.requires.within _ (contains_at c.args.tops.now c.loop-top.top-index _
    (slice_get-get_or c.args.tops.now c.loop-top.top-index 0 c.loop-top-test.true)))

pub move_one-requires-clause-on : goal.move_one-requires-clause-on
move_one-requires-clause-on c =
    kept_within c.args.conts.now.items.items c.loop-top.conts.items.items c.loop-top.invariant.0 c.args.way.on
    c.requires.on

pub move_one-requires-clause-older : goal.move_one-requires-clause-older
move_one-requires-clause-older c = c.loop-top.invariant.0.older c.requires.older

pub loop-top-preserved : goal.loop-top-preserved
loop-top-preserved c =
    let at_top = slice_get-get_or c.args.tops.now c.loop-top.top-index 0 c.loop-top-test.true in (
      kept_both c.args.conts.now.items.items c.loop-top.conts.items.items c.move_one.new.conts.items.items
          c.loop-top.invariant.0 c.in_ok-move_one.ensures.kept,
      moved_next c.args.conts.now.items.items c.loop-top.conts.items.items c.move_one.new.conts.items.items
          c.loop-top.invariant.0 c.in_ok-move_one.ensures.kept c.args.tops.now c.args.way.off c.args.way.on
          c.requires.off c.requires.on c.requires.within c.args.ids.now.items c.loop-top.ids.items
          c.move_one.new.ids.items c.loop-top.top-index _ at_top (contains_at c.args.tops.now c.loop-top.top-index _
          at_top) c.loop-top.invariant.1 (c.in_ok-move_one.ensures.moved c.if-not-branch.false),
    )

pub returns-clause-moved : goal.returns-clause-moved
returns-clause-moved c = λ _.
    moved_all c.args.conts.now.items.items c.loop-top.conts.items.items c.args.tops.now c.args.way.off c.args.way.on
    c.args.ids.now.items c.loop-top.ids.items c.loop-top.top-index c.loop-top-test.false c.loop-top.invariant.1

pub returns-then-not-branch-clause-kept : goal.returns-then-not-branch-clause-kept
returns-then-not-branch-clause-kept c =
    kept_both c.args.conts.now.items.items c.loop-top.conts.items.items c.move_one.new.conts.items.items
    c.loop-top.invariant.0 c.in_ok-move_one.ensures.kept
