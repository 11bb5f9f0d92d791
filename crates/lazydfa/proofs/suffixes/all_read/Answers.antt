use Rattle.std.proofs.lemmas.Option.{slice_get-get_or, slice_get_within}
use Rattle.std.proofs.Common.{arith}
use Rattle.lazydfa.proofs.IsClosureLemmas.{contains_at, stands_at}
use Rattle.lazydfa.proofs.IsSplitOffLemmas.{read_next}
use Rattle.lazydfa.proofs.suffixes.all_read.Goals as goal

pub top_reads-requires-clause-within : goal.top_reads-requires-clause-within
top_reads-requires-clause-within c =
    c.requires.within _ (contains_at c.args.ids.now c.loop-id.id-index _
    (slice_get-get_or c.args.ids.now c.loop-id.id-index 0 c.loop-id-test.true))

pub loop-id-preserved : goal.loop-id-preserved
loop-id-preserved c =
    read_next c.args.tables.now c.args.conts.now.items.items c.args.ids.now c.loop-id.id-index _
    (slice_get-get_or c.args.ids.now c.loop-id.id-index 0 c.loop-id-test.true)
    (c.top_reads.ensures.0 c.if-not-top_reads.false) c.loop-id.invariant

pub returns : goal.returns
returns c = λ _ id h.
    let t = stands_at c.args.ids.now id h in
    c.loop-id.invariant t.position id
    (let w = slice_get_within c.args.ids.now t.position id t.is in let e = c.loop-id-test.false in omega (arith, w, e))
    t.is
