use Rattle.std.proofs.Common.{arith, length, ap, refl, subst, sym, ◌∙◌}
use Rattle.std.proofs.lemmas.List.{length-map}
use Rattle.fixpoint.specs.Leads.{AreCycleMarks, AreRanksBut}
use Rattle.fixpoint.specs.StepRows.{slices_of, AreStepsWithin}
use Rattle.gramcheck.specs.NodeRows.{steps_of, step_rows}
use Rattle.pegnodes.specs.Nodes.{shape_of, shapes_of}
use Rattle.gramcheck.proofs.ComesBackLemmas as b
use Rattle.gramcheck.proofs.IsLeftLemmas as l
use Rattle.gramcheck.proofs.left.find_left.Goals as goal

pub on_cycle-requires : goal.on_cycle-requires
on_cycle-requires c =
    let is = ap slices_of c.deref.ensures.value ∙ c.in_ok-steps.ensures in
    subst AreStepsWithin (sym is)
    (b.step_within c.args.bodies.now c.args.nulls.now (shapes_of c.args.nodes.now) c.requires.built _
    (sym (length-map c.args.nodes.now shape_of)) c.requires.bodies)

pub named_rules-requires : goal.named_rules-requires
named_rules-requires c =
    let is = ap length (ap slices_of c.deref.ensures.value ∙ c.in_ok-steps.ensures) in
    let size = length-map (shapes_of c.args.nodes.now) (steps_of c.args.bodies.now c.args.nulls.now) in
    let shapes = length-map c.args.nodes.now shape_of in
    let rows = length-map c.deref.result.now (λ row. row.now) in
    let count = c.in_ok-found.ensures.count in
    let marks = ap length c.deref-2.ensures.value in
    omega (arith, is, size, shapes, rows, count, marks)

pub returns : goal.returns
returns c = λ rules are nulls.
    let is = ap slices_of c.deref.ensures.value ∙ c.in_ok-steps.ensures in
    let cycles = subst (λ v. AreCycleMarks v c.in_ok-found.found.marks.items) is c.in_ok-found.ensures.marks in
    let falls = subst (λ v. AreRanksBut v c.in_ok-found.found.marks.items c.in_ok-found.found.ranks.items) is
    c.in_ok-found.ensures.ranks in
    let same = subst (λ v. AreCycleMarks (step_rows c.args.bodies.now c.args.nulls.now (shapes_of c.args.nodes.now)) v)
    (sym c.deref-2.ensures.value) cycles in
    let back = b.coming_back _ (shapes_of c.args.nodes.now) c.args.bodies.now
    (b.name_steps c.args.bodies.now c.args.nulls.now (shapes_of c.args.nodes.now))
    (length c.args.bodies.now) _ _ _ _ refl (length-map c.args.nodes.now shape_of)
    refl same c.in_ok-recursive.ensures in
    (l.all_left rules _ _ _ are nulls _ _ _ c.requires.built cycles falls back)
