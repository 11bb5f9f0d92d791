use Rattle.std.proofs.lemmas.Option.{slice_get-get_or}
use Rattle.lazydfa.proofs.IsClosureLemmas.{contains_at}
use Rattle.lazydfa.proofs.KernelsLemmas.{kernel_none, kernel_more, kernel_done}
use Rattle.lazydfa.proofs.kernels.kernel_of.Goals as goal

pub loop-id-init : goal.loop-id-init
loop-id-init c =
    kernel_none c.args.tables.now c.args.conts.now.items.items c.args.ids.now c.new-kernel.result.items
    c.new-kernel.ensures.items

pub left_of-requires-clause-within : goal.left_of-requires-clause-within
left_of-requires-clause-within c =
    c.requires.within _ (contains_at c.args.ids.now c.loop-id.id-index _
    (slice_get-get_or c.args.ids.now c.loop-id.id-index 0 c.loop-id-test.true))

pub loop-id-preserved : goal.loop-id-preserved
loop-id-preserved c =
    kernel_more c.args.tables.now c.args.conts.now.items.items c.args.ids.now c.loop-id.id-index _ c.left_of.result
    _ _ (slice_get-get_or c.args.ids.now c.loop-id.id-index 0 c.loop-id-test.true) c.left_of.ensures.within
    c.left_of.ensures.is c.in_ok-push.ensures.items c.loop-id.invariant

pub returns : goal.returns
returns c =
    kernel_done c.args.tables.now c.args.conts.now.items.items c.args.ids.now c.loop-id.id-index _ c.loop-id-test.false
    c.loop-id.invariant
