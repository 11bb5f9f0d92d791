use Rattle.std.proofs.lemmas.Option.{slice_get-get_or}
use Rattle.lazydfa.proofs.IsClosureLemmas.{contains_at}
use Rattle.lazydfa.proofs.ContsLemmas.{kept_both, kept_within}
use Rattle.lazydfa.proofs.TransitionLemmas.{first_more, first_all}
use Rattle.lazydfa.proofs.transition.read_all.Goals as goal

pub read_on-requires-clause-within : goal.read_on-requires-clause-within
read_on-requires-clause-within c =
    kept_within _ _ c.loop-top.invariant.0 _ (c.requires.within _ (contains_at c.args.tops.now c.loop-top.top-index _
    (slice_get-get_or c.args.tops.now c.loop-top.top-index 0 c.loop-top-test.true)))

pub loop-top-preserved : goal.loop-top-preserved
loop-top-preserved c = (
  kept_both _ _ _ c.loop-top.invariant.0 c.in_ok-read_on.ensures.kept,
  first_more c.args.tables.now c.args.value c.args.conts.now.items.items _ _ c.args.tops.now c.loop-top.top-index _
      _ _ _
      c.loop-top.invariant.0 c.in_ok-read_on.ensures.kept
      (slice_get-get_or c.args.tops.now c.loop-top.top-index 0 c.loop-top-test.true)
      (c.requires.within _ (contains_at c.args.tops.now c.loop-top.top-index _
      (slice_get-get_or c.args.tops.now c.loop-top.top-index 0 c.loop-top-test.true)))
      c.loop-top.invariant.1 c.in_ok-read_on.ensures.adds,
)

pub returns-clause-adds : goal.returns-clause-adds
returns-clause-adds c =
    first_all c.args.tables.now c.args.value c.args.conts.now.items.items _ c.args.tops.now c.loop-top.top-index _ _
    c.loop-top-test.false c.loop-top.invariant.1
