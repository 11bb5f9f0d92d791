use Rattle.std.proofs.Common.{◌∙◌, ap, sym, subst}
use Rattle.std.proofs.lemmas.List.{length-map}
use Rattle.fixpoint.specs.Demands.{AreNeedsWithin, demands_of}
use Rattle.fixpoint.specs.Least.{AreMarksOfThose}
use Rattle.pegnodes.specs.Nodes.{shape_of, shapes_of}
use Rattle.pegexplain.proofs.SureNodesLemmas as n
use Rattle.pegexplain.proofs.sure.sure_nodes.Goals as goal

pub least-requires : goal.least-requires
least-requires c =
    let is = ap demands_of c.deref.ensures.value ∙ c.in_ok-needs.ensures in
    subst AreNeedsWithin (sym is)
    (n.sure-within c.args.bodies.now (shapes_of c.args.nodes.now) _
    (sym (length-map c.args.nodes.now shape_of)) c.requires.built
    c.requires.bodies)

pub returns-clause-marks : goal.returns-clause-marks
returns-clause-marks c = λ rules are.
    let is = ap demands_of c.deref.ensures.value ∙ c.in_ok-needs.ensures in
    n.sure-marks rules _ _ are _ (subst
    (λ v. AreMarksOfThose v c.in_ok-least.field-0.items) is c.in_ok-least.ensures.marks)
