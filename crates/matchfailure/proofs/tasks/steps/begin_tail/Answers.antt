use Rattle.std.proofs.Common.{◌≡◌, ◌∙◌, ◌<◌, ◌≤◌, length, Some, refl, sym, ap, subst, arith}
use Rattle.std.proofs.lemmas.List.{length-map, drop_all}
use Rattle.std.proofs.lemmas.Option.{slice_get-get_or}
use Rattle.pegmatch.proofs.NodeShapeLemmas.{shape_at}
use Rattle.pegnodes.proofs.NodeSpellsLemmas.{is_there}
use Rattle.pegnodes.specs.Nodes as shape
use Rattle.matchfailure.specs.FailureTasks.{HasTails}
use Rattle.matchfailure.proofs.FailureStepsLemmas as L
use Rattle.matchfailure.proofs.tasks.steps.begin_tail.Goals as goal

pub node-requires : goal.node-requires
node-requires c = subst (λ v. c.args.node < v) (length-map c.args.peg.now.nodes shape.shape_of)
    (is_there _ _ c.requires.well.1.0.1)

pub returns-then-index-len : goal.returns-then-index-len
returns-then-index-len c = λ window well.
    let here = shape_at c.args.peg.now.nodes c.args.node _ (c.node.ensures ∙ ap Some c.in-Seq.is) in
    let there = slice_get-get_or c.in-Seq.members.items c.args.index _ (omega (
      arith,
      c.len.ensures,
      c.if-index-len.true,
    ))
    ∙ ap Some (sym c.index.ensures) in
    rw c.asks.ensures (refl, refl, (shape.Seq c.in-Seq.members.items, here, there))

pub returns-else-index-len : goal.returns-else-index-len
returns-else-index-len c = λ window well.
    let here = shape_at c.args.peg.now.nodes c.args.node _ (c.node.ensures ∙ ap Some c.in-Seq.is) in
    let long : length c.in-Seq.members.items ≤ c.args.index = omega (arith, c.len.ensures, c.if-index-len.false) in
    L.seq_ends c.args.peg.now window c.requires.sound c.args.node c.args.position well.0 well.1 c.args.index
    c.in-Seq.members.items here (drop_all c.args.index c.in-Seq.members.items long)

pub returns-then-index-len-2 : goal.returns-then-index-len-2
returns-then-index-len-2 c = λ window well.
    let here = shape_at c.args.peg.now.nodes c.args.node _ (c.node.ensures ∙ ap Some c.in-Choice.is) in
    let there = slice_get-get_or c.in-Choice.alternatives.items c.args.index _ (omega (
      arith,
      c.len-in-Choice.ensures,
      c.if-index-len-2.true,
    ))
    ∙ ap Some (sym c.index-then-index-len-2.ensures) in
    rw c.asks-then-index-len-2.ensures (refl, refl, (shape.Choice c.in-Choice.alternatives.items, here, there))

pub returns-else-index-len-2 : goal.returns-else-index-len-2
returns-else-index-len-2 c = λ window well.
    let here = shape_at c.args.peg.now.nodes c.args.node _ (c.node.ensures ∙ ap Some c.in-Choice.is) in
    let long : length c.in-Choice.alternatives.items ≤ c.args.index = omega (
      arith,
      c.len-in-Choice.ensures,
      c.if-index-len-2.false,
    ) in
    L.choice_ends c.args.peg.now window c.requires.sound c.args.node c.args.position well.0 well.1 c.args.index
    c.in-Choice.alternatives.items here (drop_all c.args.index c.in-Choice.alternatives.items long)

pub returns-in_default : goal.returns-in_default
returns-in_default c = λ window well.
    let here = shape_at c.args.peg.now.nodes c.args.node _ c.node.ensures in
    let same : well.2.0 ≡ shape.shape_of c.node.result.now = cc (well.2.1, here) in
    absurd (L.no_tails c.node.result.now c.in_default.not-Seq c.in_default.not-Choice (subst HasTails same well.2.2))
