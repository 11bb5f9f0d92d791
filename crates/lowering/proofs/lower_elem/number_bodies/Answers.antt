use Rattle.lowering.proofs.FlatCutLemmas.{none_cut, next_cut}
use Rattle.lowering.proofs.lower_elem.number_bodies.Goals as goal

pub loop-id-init : goal.loop-id-init
loop-id-init c = none_cut _ _ _ _ _ c.requires.none c.requires.unmarked c.new-bodies.ensures.items

pub loop-id-preserved : goal.loop-id-preserved
loop-id-preserved c = rw (c.in_ok-push.ensures.items)
    (next_cut _ _ _ c.loop-id.invariant c.body.ensures c.in_ok-made.ensures)
