use Rattle.std.proofs.Common.{◌≡◌, ◌∙◌, ◌<◌, Some, ap, subst}
use Rattle.std.proofs.lemmas.List.{length-map}
use Rattle.memo.specs.declared.found.Found.TheVariants.{Failed, Took}
use Rattle.memo.specs.declared.task.MatchTask.TheVariants.{Eval}
use Rattle.pegmatch.proofs.NodeShapeLemmas.{shape_at}
use Rattle.pegnodes.proofs.NodeSpellsLemmas.{is_there}
use Rattle.pegnodes.specs.Nodes as shape
use Rattle.matchfailure.specs.FailureTasks.{HasOperand}
use Rattle.matchfailure.specs.declared.tasks.steps.TaskStep.TheVariants as step
use Rattle.matchfailure.proofs.FailureStepsLemmas as L
use Rattle.matchfailure.proofs.tasks.steps.go_on_node.Goals as goal

pub node-requires : goal.node-requires
node-requires c = subst (λ v. c.args.node < v) (length-map c.args.peg.now.nodes shape.shape_of)
    (is_there _ _ c.requires.well.1.0.1)

pub returns-in-Failed : goal.returns-in-Failed
returns-in-Failed c = λ window well.
    let here = shape_at c.args.peg.now.nodes c.args.node _ (c.node.ensures ∙ ap Some c.in-Star.is) in
    L.goes_on c.args.peg.now window c.requires.sound c.args.node c.args.position well.0 well.1 c.in-Star.field-0
    (shape.Star c.in-Star.field-0) c.args.found (step.Gives (Took c.args.position)) here (λ k denied h. h.0)
    (λ finds. L.star_fails c.args.peg.now window c.requires.sound c.args.node c.args.position well.0 well.1
    c.in-Star.field-0
    here (subst (L.Finds c.args.peg.now window c.requires.sound c.in-Star.field-0 c.args.position) c.in-Failed.is
    finds))

pub returns-in-Took : goal.returns-in-Took
returns-in-Took c = λ window well.
    let here = shape_at c.args.peg.now.nodes c.args.node _ (c.node.ensures ∙ ap Some c.in-Star.is) in
    L.goes_on c.args.peg.now window c.requires.sound c.args.node c.args.position well.0 well.1 c.in-Star.field-0
    (shape.Star c.in-Star.field-0) c.args.found (step.Becomes (Eval c.args.node c.in-Took.end)) here (λ k denied h. h.0)
    (λ finds. L.star_takes c.args.peg.now window c.requires.sound c.args.node c.args.position well.0 well.1
    c.in-Star.field-0 c.in-Took.end
    here (subst (L.Finds c.args.peg.now window c.requires.sound c.in-Star.field-0 c.args.position) c.in-Took.is finds))

pub returns-in-Failed-found : goal.returns-in-Failed-found
returns-in-Failed-found c = λ window well.
    let here = shape_at c.args.peg.now.nodes c.args.node _ (c.node.ensures ∙ ap Some c.in-Plus.is) in
    L.goes_on c.args.peg.now window c.requires.sound c.args.node c.args.position well.0 well.1 c.in-Plus.operand
    (shape.Plus c.in-Plus.operand c.in-Plus.star) c.args.found (step.Gives Failed) here (λ k denied h. h.0)
    (λ finds. L.plus_fails c.args.peg.now window c.requires.sound c.args.node c.args.position well.0 well.1
    c.in-Plus.operand c.in-Plus.star
    here (subst (L.Finds c.args.peg.now window c.requires.sound c.in-Plus.operand c.args.position) c.in-Failed-found.is
    finds))

pub returns-in-Took-found : goal.returns-in-Took-found
returns-in-Took-found c = λ window well.
    let here = shape_at c.args.peg.now.nodes c.args.node _ (c.node.ensures ∙ ap Some c.in-Plus.is) in
    L.goes_on c.args.peg.now window c.requires.sound c.args.node c.args.position well.0 well.1 c.in-Plus.operand
    (shape.Plus c.in-Plus.operand c.in-Plus.star) c.args.found (step.Becomes (Eval c.in-Plus.star c.in-Took-found.end))
    here (λ k denied h. h.0)
    (λ finds. L.plus_takes c.args.peg.now window c.requires.sound c.args.node c.args.position well.0 well.1
    c.in-Plus.operand c.in-Plus.star c.in-Took-found.end
    here (subst (L.Finds c.args.peg.now window c.requires.sound c.in-Plus.operand c.args.position) c.in-Took-found.is
    finds))

pub returns-in-Failed-found-2 : goal.returns-in-Failed-found-2
returns-in-Failed-found-2 c = λ window well.
    let here = shape_at c.args.peg.now.nodes c.args.node _ (c.node.ensures ∙ ap Some c.in-Opt.is) in
    L.goes_on c.args.peg.now window c.requires.sound c.args.node c.args.position well.0 well.1 c.in-Opt.field-0
    (shape.Opt c.in-Opt.field-0) c.args.found (step.Gives (Took c.args.position)) here (λ k denied h. h.0)
    (λ finds. L.opt_fails c.args.peg.now window c.requires.sound c.args.node c.args.position well.0 well.1
    c.in-Opt.field-0
    here (subst (L.Finds c.args.peg.now window c.requires.sound c.in-Opt.field-0 c.args.position)
    c.in-Failed-found-2.is finds))

pub returns-in-Took-found-2 : goal.returns-in-Took-found-2
returns-in-Took-found-2 c = λ window well.
    let here = shape_at c.args.peg.now.nodes c.args.node _ (c.node.ensures ∙ ap Some c.in-Opt.is) in
    L.goes_on c.args.peg.now window c.requires.sound c.args.node c.args.position well.0 well.1 c.in-Opt.field-0
    (shape.Opt c.in-Opt.field-0) c.args.found (step.Gives (Took c.in-Took-found-2.end)) here (λ k denied h. h.0)
    (λ finds. L.opt_takes c.args.peg.now window c.requires.sound c.args.node c.args.position well.0 well.1
    c.in-Opt.field-0 c.in-Took-found-2.end
    here (subst (L.Finds c.args.peg.now window c.requires.sound c.in-Opt.field-0 c.args.position) c.in-Took-found-2.is
    finds))

pub returns-in-Failed-found-3 : goal.returns-in-Failed-found-3
returns-in-Failed-found-3 c = λ window well.
    let here = shape_at c.args.peg.now.nodes c.args.node _ (c.node.ensures ∙ ap Some c.in-And.is) in
    L.goes_on c.args.peg.now window c.requires.sound c.args.node c.args.position well.0 well.1 c.in-And.field-0
    (shape.And c.in-And.field-0) c.args.found (step.Gives Failed) here (λ k denied h. h.0)
    (λ finds. L.and_fails c.args.peg.now window c.requires.sound c.args.node c.args.position well.0 well.1
    c.in-And.field-0
    here (subst (L.Finds c.args.peg.now window c.requires.sound c.in-And.field-0 c.args.position)
    c.in-Failed-found-3.is finds))

pub returns-in-Took-found-3 : goal.returns-in-Took-found-3
returns-in-Took-found-3 c = λ window well.
    let here = shape_at c.args.peg.now.nodes c.args.node _ (c.node.ensures ∙ ap Some c.in-And.is) in
    L.goes_on c.args.peg.now window c.requires.sound c.args.node c.args.position well.0 well.1 c.in-And.field-0
    (shape.And c.in-And.field-0) c.args.found (step.Gives (Took c.args.position)) here (λ k denied h. h.0)
    (λ finds. L.and_takes c.args.peg.now window c.requires.sound c.args.node c.args.position well.0 well.1
    c.in-And.field-0 c.in-Took-found-3.field-0
    here (subst (L.Finds c.args.peg.now window c.requires.sound c.in-And.field-0 c.args.position) c.in-Took-found-3.is
    finds))

pub returns-in-Failed-found-4 : goal.returns-in-Failed-found-4
returns-in-Failed-found-4 c = λ window well.
    let here = shape_at c.args.peg.now.nodes c.args.node _ (c.node.ensures ∙ ap Some c.in-Not.is) in
    L.goes_on c.args.peg.now window c.requires.sound c.args.node c.args.position well.0 well.1 c.in-Not.field-0
    (shape.Not c.in-Not.field-0) c.args.found (step.Gives (Took c.args.position)) here (λ k denied h. h.0)
    (λ finds. L.not_fails c.args.peg.now window c.requires.sound c.args.node c.args.position well.0 well.1
    c.in-Not.field-0
    here (subst (L.Finds c.args.peg.now window c.requires.sound c.in-Not.field-0 c.args.position)
    c.in-Failed-found-4.is finds))

pub returns-in-Took-found-4 : goal.returns-in-Took-found-4
returns-in-Took-found-4 c = λ window well.
    let here = shape_at c.args.peg.now.nodes c.args.node _ (c.node.ensures ∙ ap Some c.in-Not.is) in
    L.goes_on c.args.peg.now window c.requires.sound c.args.node c.args.position well.0 well.1 c.in-Not.field-0
    (shape.Not c.in-Not.field-0) c.args.found (step.Gives Failed) here (λ k denied h. h.0)
    (λ finds. L.not_takes c.args.peg.now window c.requires.sound c.args.node c.args.position well.0 well.1
    c.in-Not.field-0 c.in-Took-found-4.field-0
    here (subst (L.Finds c.args.peg.now window c.requires.sound c.in-Not.field-0 c.args.position) c.in-Took-found-4.is
    finds))

pub returns-in_default : goal.returns-in_default
returns-in_default c = λ window well k q denied first.
    let here = shape_at c.args.peg.now.nodes c.args.node _ c.node.ensures in
    let same : first.1.0 ≡ shape.shape_of c.node.result.now = cc (first.1.1, here) in
    absurd (L.no_operand k denied c.node.result.now c.in_default.not-Star c.in_default.not-Plus c.in_default.not-Opt
    c.in_default.not-And c.in_default.not-Not (subst (λ v. HasOperand v k denied) same first.1.2))
