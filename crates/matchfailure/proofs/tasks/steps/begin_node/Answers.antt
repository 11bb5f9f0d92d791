use Rattle.std.proofs.Common.{◌∙◌, ◌<◌, false, [], get_or, Some, refl, ap, subst, arith}
use Rattle.std.proofs.lemmas.List.{length-map}
use Rattle.memo.specs.declared.found.Found.TheVariants.{Took}
use Rattle.pegmatch.proofs.NodeShapeLemmas.{shape_at}
use Rattle.pegnodes.proofs.HasShapeLemmas.{has_shape}
use Rattle.pegnodes.proofs.NodeSpellsLemmas.{is_there}
use Rattle.pegnodes.specs.Nodes as shape
use Rattle.gramcheck.specs.Outcome.{act, open_at, close_at}
use Rattle.matchfailure.proofs.FailureStepsLemmas as L
use Rattle.matchfailure.proofs.tasks.steps.begin_node.Goals as goal

pub node-requires : goal.node-requires
node-requires c = subst (λ v. c.args.node < v) (length-map c.args.peg.now.nodes shape.shape_of)
    (is_there _ _ c.requires.well.0.1)

pub body_node-requires : goal.body_node-requires
body_node-requires c =
    let here = shape_at c.args.peg.now.nodes c.args.node _ (c.node.ensures ∙ ap Some c.in-Name.is) in
    let low = c.requires.sound.defined c.args.node c.in-Name.id here in
    let count = c.requires.sound.spelled.count in
    omega (arith, low, count)

pub returns-in-Any : goal.returns-in-Any
returns-in-Any c =
    let here = shape_at c.args.peg.now.nodes c.args.node _ (c.node.ensures ∙ ap Some c.in-Any.is) in
    L.leaf_begins c.args.peg.now c.args.window.now c.requires.sound c.args.node c.args.position c.requires.well.0
    c.requires.well.1 shape.Any c.match_any.result.found [] _ c.match_any.result.looked here (λ m q h. h)
    (has_shape _ _ c.requires.well.0.1 shape.Any here) (c.match_any.ensures.value _)

pub returns-in-Bytes : goal.returns-in-Bytes
returns-in-Bytes c =
    let here = shape_at c.args.peg.now.nodes c.args.node _ (c.node.ensures ∙ ap Some c.in-Bytes.is) in
    L.leaf_begins c.args.peg.now c.args.window.now c.requires.sound c.args.node c.args.position c.requires.well.0
    c.requires.well.1 (shape.Bytes c.in-Bytes.bytes.items) c.match_bytes.result.found [] _ c.match_bytes.result.looked
    here (λ m q h. h)
    (has_shape _ _ c.requires.well.0.1 (shape.Bytes c.in-Bytes.bytes.items) here) (rw (← c.deref.ensures.value)
    (c.match_bytes.ensures.value _))

pub returns-in-Set : goal.returns-in-Set
returns-in-Set c =
    let here = shape_at c.args.peg.now.nodes c.args.node _ (c.node.ensures ∙ ap Some c.in-Set.is) in
    L.leaf_begins c.args.peg.now c.args.window.now c.requires.sound c.args.node c.args.position c.requires.well.0
    c.requires.well.1 (shape.Set (λ b. get_or c.in-Set.set b false)) c.match_set.result.found [] _
    c.match_set.result.looked here (λ m q h. h)
    (has_shape _ _ c.requires.well.0.1 (shape.Set (λ b. get_or c.in-Set.set b false)) here) (c.match_set.ensures.value
    _)

pub returns-in-Act : goal.returns-in-Act
returns-in-Act c =
    let here = shape_at c.args.peg.now.nodes c.args.node _ (c.node.ensures ∙ ap Some c.in-Act.is) in
    L.leaf_begins c.args.peg.now c.args.window.now c.requires.sound c.args.node c.args.position c.requires.well.0
    c.requires.well.1 (shape.Act c.in-Act.field-0.items) (Took c.args.position) _ _ 0 here (λ m q h. h)
    (has_shape _ _ c.requires.well.0.1 (shape.Act c.in-Act.field-0.items) here) act

pub returns-in-Open : goal.returns-in-Open
returns-in-Open c =
    let here = shape_at c.args.peg.now.nodes c.args.node _ (c.node.ensures ∙ ap Some c.in-Open.is) in
    L.leaf_begins c.args.peg.now c.args.window.now c.requires.sound c.args.node c.args.position c.requires.well.0
    c.requires.well.1 shape.Open (Took c.args.position) _ _ 0 here (λ m q h. h)
    (has_shape _ _ c.requires.well.0.1 shape.Open here) open_at

pub returns-in-Close : goal.returns-in-Close
returns-in-Close c =
    let here = shape_at c.args.peg.now.nodes c.args.node _ (c.node.ensures ∙ ap Some c.in-Close.is) in
    L.leaf_begins c.args.peg.now c.args.window.now c.requires.sound c.args.node c.args.position c.requires.well.0
    c.requires.well.1 shape.Close (Took c.args.position) _ _ 0 here (λ m q h. h)
    (has_shape _ _ c.requires.well.0.1 shape.Close here) close_at

pub returns-in-Name : goal.returns-in-Name
returns-in-Name c =
    let here = shape_at c.args.peg.now.nodes c.args.node _ (c.node.ensures ∙ ap Some c.in-Name.is) in
    L.name_begins c.args.peg.now c.args.window.now c.requires.sound c.args.node c.args.position c.requires.well.0
    c.requires.well.1 c.in-Name.id c.body_node.result here c.body_node.ensures

pub returns-in-Seq : goal.returns-in-Seq
returns-in-Seq c =
    let here = shape_at c.args.peg.now.nodes c.args.node _ (c.node.ensures ∙ ap Some c.in-Seq.is) in
    rw c.tail.ensures (L.seq_begins c.args.peg.now c.args.window.now c.requires.sound c.args.node c.args.position
    c.requires.well.0 c.requires.well.1 c.in-Seq.field-0.items here)

pub returns-in-Choice : goal.returns-in-Choice
returns-in-Choice c =
    let here = shape_at c.args.peg.now.nodes c.args.node _ (c.node.ensures ∙ ap Some c.in-Choice.is) in
    rw c.tail-in-Choice.ensures (L.choice_begins c.args.peg.now c.args.window.now c.requires.sound c.args.node
    c.args.position c.requires.well.0 c.requires.well.1 c.in-Choice.field-0.items here)

pub returns-in-Star : goal.returns-in-Star
returns-in-Star c =
    let here = shape_at c.args.peg.now.nodes c.args.node _ (c.node.ensures ∙ ap Some c.in-Star.is) in
    rw c.asks.ensures (refl, (shape.Star c.in-Star.operand, here, (refl, refl)))

pub returns-in-Plus : goal.returns-in-Plus
returns-in-Plus c =
    let here = shape_at c.args.peg.now.nodes c.args.node _ (c.node.ensures ∙ ap Some c.in-Plus.is) in
    rw c.asks-in-Plus.ensures (refl, (shape.Plus c.in-Plus.operand c.in-Plus.star, here, (refl, refl)))

pub returns-in-Opt : goal.returns-in-Opt
returns-in-Opt c =
    let here = shape_at c.args.peg.now.nodes c.args.node _ (c.node.ensures ∙ ap Some c.in-Opt.is) in
    rw c.asks-in-Opt.ensures (refl, (shape.Opt c.in-Opt.operand, here, (refl, refl)))

pub returns-in-And : goal.returns-in-And
returns-in-And c =
    let here = shape_at c.args.peg.now.nodes c.args.node _ (c.node.ensures ∙ ap Some c.in-And.is) in
    rw c.asks-in-And.ensures (refl, (shape.And c.in-And.operand, here, (refl, refl)))

pub returns-in-Not : goal.returns-in-Not
returns-in-Not c =
    let here = shape_at c.args.peg.now.nodes c.args.node _ (c.node.ensures ∙ ap Some c.in-Not.is) in
    (refl, (shape.Not c.in-Not.operand, here, (refl, refl)))
