use Rattle.std.proofs.lemmas.Option.{slice_get-get_or}
use Rattle.lazydfa.proofs.IsClosureLemmas.{contains_at}
use Rattle.lazydfa.proofs.IsPrunedLemmas.{pruned_none, pruned_next, pruned_all}
use Rattle.lazydfa.proofs.prune.undominated.Goals as goal

pub loop-top-init : goal.loop-top-init
loop-top-init c = pruned_none c.args.tables.now c.args.conts.now.items.items c.args.tops.now _ c.new-kept.ensures.items

pub take_top-requires-clause-within : goal.take_top-requires-clause-within
take_top-requires-clause-within c = λ id h. c.requires.within id (c.loop-top.invariant.only id h)

pub take_top-requires-clause-top : goal.take_top-requires-clause-top
take_top-requires-clause-top c =
    c.requires.within _ (contains_at c.args.tops.now c.loop-top.top-index _
    (slice_get-get_or c.args.tops.now c.loop-top.top-index 0 c.loop-top-test.true))

pub loop-top-preserved : goal.loop-top-preserved
loop-top-preserved c =
    pruned_next c.args.tables.now c.args.conts.now.items.items c.args.tops.now c.loop-top.top-index _ _ _
    (slice_get-get_or c.args.tops.now c.loop-top.top-index 0 c.loop-top-test.true) c.in_ok-take_top.ensures
    c.loop-top.invariant

pub returns : goal.returns
returns c =
    pruned_all c.args.tables.now c.args.conts.now.items.items c.args.tops.now c.loop-top.top-index
    c.loop-top.kept.items c.reverse.new.self.items c.loop-top-test.false c.reverse.ensures.items c.loop-top.invariant
