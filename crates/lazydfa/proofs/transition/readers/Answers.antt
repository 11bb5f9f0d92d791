use Rattle.std.proofs.lemmas.Option.{slice_get-get_or}
use Rattle.lazydfa.proofs.IsClosureLemmas.{contains_at}
use Rattle.lazydfa.proofs.TransitionLemmas.{readers_kept, readers_done}
use Rattle.lazydfa.proofs.transition.readers.Goals as goal

pub top_reads-requires-clause-within : goal.top_reads-requires-clause-within
top_reads-requires-clause-within c =
    c.requires.within _ (contains_at c.args.ids.now c.loop-id.id-index _
    (slice_get-get_or c.args.ids.now c.loop-id.id-index 0 c.loop-id-test.true))

pub loop-id-preserved : goal.loop-id-preserved
loop-id-preserved c =
    readers_kept c.args.tables.now c.args.conts.now.items.items c.args.ids.now c.loop-id.id-index _ _ _
    c.top_reads.result
    (slice_get-get_or c.args.ids.now c.loop-id.id-index 0 c.loop-id-test.true) c.top_reads.ensures
    c.in_ok-keep.ensures.kept c.in_ok-keep.ensures.left c.loop-id.invariant

pub returns : goal.returns
returns c =
    readers_done c.args.tables.now c.args.conts.now.items.items c.args.ids.now c.loop-id.id-index _ c.loop-id-test.false
    c.loop-id.invariant
