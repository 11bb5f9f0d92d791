use Rattle.std.proofs.Common.{◌≡◌, ◌∙◌, ◌+◌, ◌<◌, Some, ap, subst, arith}
use Rattle.std.proofs.lemmas.List.{length-map}
use Rattle.std.proofs.lemmas.Option.{slice_get_within}
use Rattle.memo.specs.declared.found.Found.TheVariants.{Failed, Took}
use Rattle.memo.specs.declared.task.MatchTask.TheVariants.{Tail}
use Rattle.pegmatch.proofs.NodeShapeLemmas.{shape_at}
use Rattle.pegnodes.proofs.NodeSpellsLemmas.{is_there}
use Rattle.pegnodes.specs.Nodes as shape
use Rattle.matchfailure.specs.FailureTasks.{HasMemberAt, HasTails}
use Rattle.matchfailure.specs.declared.tasks.steps.TaskStep.TheVariants as step
use Rattle.matchfailure.proofs.FailureStepsLemmas as L
use Rattle.matchfailure.proofs.tasks.steps.go_on_tail.Goals as goal

pub node-requires : goal.node-requires
node-requires c = subst (λ v. c.args.node < v) (length-map c.args.peg.now.nodes shape.shape_of)
    (is_there _ _ c.requires.well.1.0.1)

pub overflow_add-result : goal.overflow_add-result
overflow_add-result c =
    let first = c.requires.asks.3.2 in
    let here = shape_at c.args.peg.now.nodes c.args.node _ (c.node.ensures ∙ ap Some c.in-Seq.is) in
    let same : first.0 ≡ shape.Seq c.in-Seq.field-0.items = cc (first.1, here) in
    let within = slice_get_within c.in-Seq.field-0.items c.args.index _
    (subst (λ v. HasMemberAt v c.args.index c.requires.asks.0) same first.2) in
    omega (arith, within)

pub overflow_add-result-in-Failed-found : goal.overflow_add-result-in-Failed-found
overflow_add-result-in-Failed-found c =
    let first = c.requires.asks.3.2 in
    let here = shape_at c.args.peg.now.nodes c.args.node _ (c.node.ensures ∙ ap Some c.in-Choice.is) in
    let same : first.0 ≡ shape.Choice c.in-Choice.field-0.items = cc (first.1, here) in
    let within = slice_get_within c.in-Choice.field-0.items c.args.index _
    (subst (λ v. HasMemberAt v c.args.index c.requires.asks.0) same first.2) in
    omega (arith, within)

pub returns-in-Failed : goal.returns-in-Failed
returns-in-Failed c = λ window well.
    let here = shape_at c.args.peg.now.nodes c.args.node _ (c.node.ensures ∙ ap Some c.in-Seq.is) in
    L.tail_goes_on c.args.peg.now window c.requires.sound c.args.node c.args.position well.0 well.1 c.args.index
    (shape.Seq c.in-Seq.field-0.items) c.args.found (step.Gives Failed) here
    (λ k there finds. L.seq_fails c.args.peg.now window c.requires.sound c.args.node c.args.position well.0 well.1
    c.args.index c.in-Seq.field-0.items here k there
    (subst (L.Finds c.args.peg.now window c.requires.sound k c.args.position) c.in-Failed.is finds))

pub returns-in-Took : goal.returns-in-Took
returns-in-Took c = λ window well.
    let here = shape_at c.args.peg.now.nodes c.args.node _ (c.node.ensures ∙ ap Some c.in-Seq.is) in
    L.tail_goes_on c.args.peg.now window c.requires.sound c.args.node c.args.position well.0 well.1 c.args.index
    (shape.Seq c.in-Seq.field-0.items) c.args.found (step.Becomes (Tail c.args.node (c.args.index + 1) c.in-Took.end))
    here
    (λ k there finds. L.seq_takes c.args.peg.now window c.requires.sound c.args.node c.args.position well.0 well.1
    c.args.index c.in-Seq.field-0.items here k there c.in-Took.end
    (subst (L.Finds c.args.peg.now window c.requires.sound k c.args.position) c.in-Took.is finds))

pub returns-in-Failed-found : goal.returns-in-Failed-found
returns-in-Failed-found c = λ window well.
    let here = shape_at c.args.peg.now.nodes c.args.node _ (c.node.ensures ∙ ap Some c.in-Choice.is) in
    L.tail_goes_on c.args.peg.now window c.requires.sound c.args.node c.args.position well.0 well.1 c.args.index
    (shape.Choice c.in-Choice.field-0.items) c.args.found (step.Becomes (Tail c.args.node (c.args.index + 1)
    c.args.position)) here
    (λ k there finds. L.choice_fails c.args.peg.now window c.requires.sound c.args.node c.args.position well.0 well.1
    c.args.index c.in-Choice.field-0.items here k there
    (subst (L.Finds c.args.peg.now window c.requires.sound k c.args.position) c.in-Failed-found.is finds))

pub returns-in-Took-found : goal.returns-in-Took-found
returns-in-Took-found c = λ window well.
    let here = shape_at c.args.peg.now.nodes c.args.node _ (c.node.ensures ∙ ap Some c.in-Choice.is) in
    L.tail_goes_on c.args.peg.now window c.requires.sound c.args.node c.args.position well.0 well.1 c.args.index
    (shape.Choice c.in-Choice.field-0.items) c.args.found (step.Gives (Took c.in-Took-found.end)) here
    (λ k there finds. L.choice_takes c.args.peg.now window c.requires.sound c.args.node c.args.position well.0 well.1
    c.args.index c.in-Choice.field-0.items here k there c.in-Took-found.end
    (subst (L.Finds c.args.peg.now window c.requires.sound k c.args.position) c.in-Took-found.is finds))

pub returns-in_default : goal.returns-in_default
returns-in_default c = λ window well.
    let here = shape_at c.args.peg.now.nodes c.args.node _ c.node.ensures in
    let same : well.2.0 ≡ shape.shape_of c.node.result.now = cc (well.2.1, here) in
    absurd (L.no_tails c.node.result.now c.in_default.not-Seq c.in_default.not-Choice (subst HasTails same well.2.2))
