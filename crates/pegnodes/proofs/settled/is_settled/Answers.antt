use Rattle.std.proofs.Common.{get_or, None, sym, subst}
use Rattle.pegnodes.specs.Nodes.{shapes_of}
use Rattle.pegnodes.specs.SettledNeeds.{AreLate, AreOver}
use Rattle.pegnodes.proofs.SettledLemmas.{sure_settled}
use Rattle.pegnodes.proofs.settled.is_settled.Goals as goal

pub returns : goal.returns
returns c = λ yes.
    let marked : AreLate (shapes_of c.args.nodes.now) c.args.bodies.now (λ m. get_or c.args.row.now m None)
    c.in-Some.late.items = rw c.in-Some.is at (c.in_ok-late.ensures) in
    let over : AreOver (shapes_of c.args.nodes.now) c.args.bodies.now (λ m. get_or c.args.row.now m None)
    c.in-Some-2.over.items = (rw c.in-Some-2.is at (c.in_ok-over.ensures)) (subst
    (AreLate (shapes_of c.args.nodes.now) c.args.bodies.now (λ m. get_or c.args.row.now m None))
    (sym c.deref.ensures.value) marked) in
    sure_settled (shapes_of c.args.nodes.now) c.args.bodies.now (λ m. get_or c.args.row.now m None)
    c.in-Some.late.items c.in-Some-2.over.items marked over
    (rw (c.deref-2.ensures.value, c.deref-3.ensures.value) at (c.are_nodes_sure.ensures yes))
