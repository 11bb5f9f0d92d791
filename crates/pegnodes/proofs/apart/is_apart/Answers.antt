use Rattle.std.proofs.Common.{◌<◌, sym, subst}
use Rattle.std.specs.Prelude.{IfSome}
use Rattle.pegnodes.specs.ClosedMarks.{AreShapesApart, AreClosedMarks}
use Rattle.pegnodes.specs.Nodes.{shapes_of}
use Rattle.pegnodes.specs.declared.apart.Wanted.TheVariants.{Nears, Lasts}
use Rattle.pegnodes.proofs.HasShapeLemmas.{length-shapes}
use Rattle.pegnodes.proofs.IsApartLemmas.{apart_by_marks}
use Rattle.pegnodes.proofs.apart.is_apart.Goals as goal

pub returns : goal.returns
returns c apart =
    let nodes = shapes_of c.args.nodes.now in
    let bodies = c.args.bodies.now in
    let near = subst (λ r. IfSome r (λ m. AreClosedMarks (Nears c.args.l c.args.empties) nodes bodies m.items))
    c.in-Some.is c.in_ok-near.ensures in
    let last = subst (λ r. IfSome r (λ m. AreClosedMarks (Lasts c.args.empties c.deref.result) nodes bodies m.items))
    c.in-Some-2.is c.in_ok-last.ensures in
    let seen = c.are_nodes_apart.ensures apart in
    let first = subst (λ v. AreShapesApart c.args.empties.now v c.deref-3.result.now nodes) c.deref-2.ensures.value seen
    in
    let second = subst (λ v. AreShapesApart c.args.empties.now v c.deref-3.result.now nodes) (sym c.deref.ensures.value)
    first in
    apart_by_marks nodes bodies c.args.empties c.deref.result c.in-Some-2.last.items c.args.l
    (subst (λ v. c.args.l < v) (sym (length-shapes c.args.nodes.now)) c.requires.l)
    c.requires.empties
    (subst (AreClosedMarks (Nears c.args.l c.args.empties) nodes bodies) (sym c.deref.ensures.value) near) last
    (subst (λ v. AreShapesApart c.args.empties.now c.deref.result.now v nodes) c.deref-3.ensures.value second)
