use Rattle.std.proofs.lemmas.Option.{slice_get-get_or}
use Rattle.flatgrammar.specs.FlatViews.{set_of}
use Rattle.flatgrammar.specs.ClassBounds.{IsSplit}
use Rattle.flatgrammar.proofs.AreClassesLemmas.{more_split, split_to_next, split_to_end}
use Rattle.flatgrammar.proofs.classes.add_sets.Goals as goal

pub loop-set-preserved : goal.loop-set-preserved
loop-set-preserved c = (
  λ i h. c.loop-set.invariant.0 i (c.in_ok-add_set.ensures.more i h),
  split_to_next set_of IsSplit more_split c.loop-set.bounds.numbers.items c.add_set.new.bounds.numbers.items
      c.args.sets.now c.loop-set.set-index _
      (slice_get-get_or c.args.sets.now c.loop-set.set-index _ c.loop-set-test.true)
      c.in_ok-add_set.ensures.more c.in_ok-add_set.ensures.split c.loop-set.invariant.1,
)

pub returns-clause-split : goal.returns-clause-split
returns-clause-split c =
    split_to_end set_of IsSplit more_split c.loop-set.bounds.numbers.items c.args.sets.now c.loop-set.set-index
    c.loop-set-test.false c.loop-set.invariant.1
