use Rattle.std.proofs.Common.{arith}
use Rattle.fixpoint.proofs.JoinsLemmas as j
use Rattle.fixpoint.proofs.cycles.join.Goals as goal

pub loop-part-preserved : goal.loop-part-preserved
loop-part-preserved c =
    let ok = c.loop-part.parts.ok.0 in
    let len = c.deref.ensures.len in
    j.drops_next _ _ _ _ _ _ _ (c.in-Some.ensures).value c.deref.ensures.value
    (omega (arith, ok)) c.pop.ensures.rest c.if-part-position.false c.loop-part.invariant
