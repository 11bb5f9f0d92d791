use Rattle.std.proofs.Common.{◌∙◌, ap, get_or, None, sym, subst}
use Rattle.std.proofs.lemmas.List.{length-map}
use Rattle.fixpoint.specs.Demands.{demand_of, demands_of}
use Rattle.fixpoint.specs.Least.{AreMarksOfThose}
use Rattle.pegnodes.specs.Nodes.{shape_of, shapes_of}
use Rattle.pegnodes.proofs.SettledLemmas.{over_comes}
use Rattle.pegnodes.proofs.settled.overs.Goals as goal

pub returns : goal.returns
returns c = λ marked n o.
    let are = subst (λ v. AreMarksOfThose v c.in_ok-over.over.items) (ap demands_of c.deref-2.ensures.value)
    c.in_ok-over.ensures.marks in
    let count = length-map c.in_ok-needs.needs.items demand_of
    ∙ (c.in_ok-needs.ensures.count ∙ sym (length-map c.args.nodes.now shape_of)) in
    (are n).1 (over_comes (shapes_of c.args.nodes.now) c.args.bodies.now (λ m. get_or c.args.row.now m None)
    (demands_of c.in_ok-needs.needs.items) count c.args.late.now marked c.in_ok-needs.ensures.lets o)
