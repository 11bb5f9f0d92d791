use Rattle.std.proofs.Common.{◌≡◌, ◌∙◌, inl, ◌<◌, length}
use Rattle.std.proofs.Common.{Some, refl, ap, arith}
use Rattle.std.proofs.lemmas.Option.{slice_get_past}
use Rattle.pegnodes.specs.Nodes as shape
use Rattle.pegnodes.specs.Nodes.{spells_any, spells_bytes, spells_set}
use Rattle.pegnodes.proofs.HasShapeLemmas.{has_shape}
use Rattle.pegread.specs.PegViews.{rules_of}
use Rattle.gramcheck.specs.Outcome.{Acted, Opened, Closed}
use Rattle.pegmatch.specs.KeptEvents.{acted, opened, closed}
use Rattle.pegmatch.proofs.NodeShapeLemmas.{shape_at}
use Rattle.packrat.proofs.TaskGivesLemmas as L
use Rattle.packrat.proofs.OnwardLemmas as M
use Rattle.packrat.proofs.onward.begin_node.Goals as goal

pub returns-in-Any : goal.returns-in-Any
returns-in-Any c =
    let here = shape_at c.args.peg.now.nodes c.args.node _ (c.node.ensures ∙ ap Some c.in-Any.is) in
    M.leaf_after c.args.peg.now c.args.window.now c.args.more c.requires.some c.requires.sound c.args.node
    c.args.position
    c.match_any.result c.leaf.result _ (shape.Any, here, refl) (spells_any here) (c.match_any.ensures.value _)
    c.match_any.ensures.looked c.leaf.ensures

pub returns-in-Bytes : goal.returns-in-Bytes
returns-in-Bytes c =
    let here = shape_at c.args.peg.now.nodes c.args.node _ (c.node.ensures ∙ ap Some c.in-Bytes.is) in
    M.leaf_after c.args.peg.now c.args.window.now c.args.more c.requires.some c.requires.sound c.args.node
    c.args.position
    c.match_bytes.result c.leaf-in-Bytes.result _ (shape.Bytes _, here, refl) (spells_bytes here) (rw
    c.deref.ensures.value at (c.match_bytes.ensures.value (rules_of c.args.peg.now.rules)))
    c.match_bytes.ensures.looked c.leaf-in-Bytes.ensures

pub returns-in-Set : goal.returns-in-Set
returns-in-Set c =
    let here = shape_at c.args.peg.now.nodes c.args.node _ (c.node.ensures ∙ ap Some c.in-Set.is) in
    M.leaf_after c.args.peg.now c.args.window.now c.args.more c.requires.some c.requires.sound c.args.node
    c.args.position
    c.match_set.result c.leaf-in-Set.result _ (shape.Set _, here, refl) (spells_set here) (c.match_set.ensures.value _)
    c.match_set.ensures.looked c.leaf-in-Set.ensures

pub returns-in-Name : goal.returns-in-Name
returns-in-Name c =
    let here = shape_at c.args.peg.now.nodes c.args.node _ (c.node.ensures ∙ ap Some c.in-Name.is) in
    let well = c.requires.well in
    let body = c.requires.sound.spelled.spelled c.in-Name.id c.body_node.result c.body_node.ensures in
    M.name_led c.args.peg.now c.args.window.now c.args.more c.requires.some c.requires.sound c.args.node c.args.position
    c.in-Name.id c.body_node.result well here c.body_node.ensures ((body.0, body.2), well.1)

pub returns-then-is_empty : goal.returns-then-is_empty
returns-then-is_empty c =
    let here = shape_at c.args.peg.now.nodes c.args.node _ (c.node.ensures ∙ ap Some c.in-Seq.is) in
    let well = c.requires.well in
    let none : length c.in-Seq.members.items ≡ 0 = let zero_len = L.empty_is _ _ c.is_empty.ensures
    c.if-is_empty.true in omega (arith, zero_len) in
    ((
      (
        shape.Seq c.in-Seq.members.items,
        here,
        inl (
          slice_get_past c.in-Seq.members.items 0 (omega (arith, none)),
          refl,
        ),
      ),
      L.seq_empty c.args.peg.now c.args.window.now c.args.more c.requires.some c.requires.sound c.args.node
          c.args.position
          c.in-Seq.members.items well.0 here none,
    ))

pub returns-else-is_empty : goal.returns-else-is_empty
returns-else-is_empty c =
    let here = shape_at c.args.peg.now.nodes c.args.node _ (c.node.ensures ∙ ap Some c.in-Seq.is) in
    let well = c.requires.well in
    let not_none : length c.in-Seq.members.items ≡ 0 → ⊥ = let more = L.empty_not _ _ c.is_empty.ensures
    c.if-is_empty.false in (λ h. more (omega (arith, h))) in
    let some : 0 < length c.in-Seq.members.items = M.some_of c.in-Seq.members.items not_none in
    rw (c.tail_from.ensures, c.deref-else-is_empty.ensures.value)
    (M.members_enter c.args.peg.now c.args.window.now c.args.more c.requires.some c.requires.sound c.args.node
    c.args.position
    c.in-Seq.members.items well some here)

pub skips_at-requires-clause-at : goal.skips_at-requires-clause-at
skips_at-requires-clause-at c =
    let here = shape_at c.args.peg.now.nodes c.args.node _ (c.node.ensures ∙ ap Some c.in-Choice.is) in
    rw c.deref-in-Choice.ensures.value here

pub begin_star-requires-clause-is : goal.begin_star-requires-clause-is
begin_star-requires-clause-is c =
    let here = shape_at c.args.peg.now.nodes c.args.node _ (c.node.ensures ∙ ap Some c.in-Star.is) in
    let well = c.requires.well in
    let like = has_shape _ _ well.0.1 (shape.Star c.in-Star.operand) here in
    (here, ((shape.Star c.in-Star.operand, here, refl), ((like.0, like.2), well.1)))

pub tested-requires-clause-tabled : goal.tested-requires-clause-tabled
tested-requires-clause-tabled c = (
  shape.Not c.in-Not.operand,
  shape_at c.args.peg.now.nodes c.args.node _ (c.node.ensures ∙ ap Some c.in-Not.is),
  refl,
)

pub tested-requires-clause-led : goal.tested-requires-clause-led
tested-requires-clause-led c =
    let here = shape_at c.args.peg.now.nodes c.args.node _ (c.node.ensures ∙ ap Some c.in-Not.is) in
    let well = c.requires.well in
    let like = has_shape _ _ well.0.1 (shape.Not c.in-Not.operand) here in
    ((shape.Not c.in-Not.operand, here, refl), ((like.0, like.2), well.1))

pub tested-requires-in-Opt-clause-tabled : goal.tested-requires-in-Opt-clause-tabled
tested-requires-in-Opt-clause-tabled c = (
  shape.Opt c.in-Opt.operand,
  shape_at c.args.peg.now.nodes c.args.node _ (c.node.ensures ∙ ap Some c.in-Opt.is),
  refl,
)

pub tested-requires-in-Opt-clause-led : goal.tested-requires-in-Opt-clause-led
tested-requires-in-Opt-clause-led c =
    let here = shape_at c.args.peg.now.nodes c.args.node _ (c.node.ensures ∙ ap Some c.in-Opt.is) in
    let well = c.requires.well in
    let like = has_shape _ _ well.0.1 (shape.Opt c.in-Opt.operand) here in
    ((shape.Opt c.in-Opt.operand, here, refl), ((like.0, like.2), well.1))

pub tested-requires-in-And-clause-tabled : goal.tested-requires-in-And-clause-tabled
tested-requires-in-And-clause-tabled c = (
  shape.And c.in-And.operand,
  shape_at c.args.peg.now.nodes c.args.node _ (c.node.ensures ∙ ap Some c.in-And.is),
  refl,
)

pub tested-requires-in-And-clause-led : goal.tested-requires-in-And-clause-led
tested-requires-in-And-clause-led c =
    let here = shape_at c.args.peg.now.nodes c.args.node _ (c.node.ensures ∙ ap Some c.in-And.is) in
    let well = c.requires.well in
    let like = has_shape _ _ well.0.1 (shape.And c.in-And.operand) here in
    ((shape.And c.in-And.operand, here, refl), ((like.0, like.2), well.1))

pub returns-in-Some : goal.returns-in-Some
returns-in-Some c =
    let here = shape_at c.args.peg.now.nodes c.args.node _ (c.node.ensures ∙ ap Some c.in-Plus.is) in
    let well = c.requires.well in
    let like = has_shape _ _ well.0.1 (shape.Plus c.in-Plus.operand c.in-Plus.star) here in (
      refl,
      record {
        at = here;
        led = ((shape.Plus c.in-Plus.operand c.in-Plus.star, here, refl), ((like.0, like.2), well.1));
        by_byte = c.in-Some.ensures c.in-Plus.operand like.3;
      },
    )

pub returns-in-None : goal.returns-in-None
returns-in-None c =
    let here = shape_at c.args.peg.now.nodes c.args.node _ (c.node.ensures ∙ ap Some c.in-Plus.is) in
    let well = c.requires.well in
    let like = has_shape _ _ well.0.1 (shape.Plus c.in-Plus.operand c.in-Plus.star) here in
    (((shape.Plus c.in-Plus.operand c.in-Plus.star, here, refl), ((like.0, like.2), well.1)))

pub returns-in-Act : goal.returns-in-Act
returns-in-Act c =
    let here = shape_at c.args.peg.now.nodes c.args.node _ (c.node.ensures ∙ ap Some c.in-Act.is) in (
      (shape.Act _, here, refl),
      (
        Acted _,
        acted here,
        L.act_task c.args.peg.now c.args.window.now c.args.more c.requires.some c.requires.sound c.args.node
            c.args.position _ here,
      ),
    )

pub returns-in-Open : goal.returns-in-Open
returns-in-Open c =
    let here = shape_at c.args.peg.now.nodes c.args.node _ (c.node.ensures ∙ ap Some c.in-Open.is) in (
      (shape.Open, here, refl),
      (
        Opened c.args.position,
        opened,
        L.open_task c.args.peg.now c.args.window.now c.args.more c.requires.some c.requires.sound c.args.node
            c.args.position here,
      ),
    )

pub returns-in-Close : goal.returns-in-Close
returns-in-Close c =
    let here = shape_at c.args.peg.now.nodes c.args.node _ (c.node.ensures ∙ ap Some c.in-Close.is) in (
      (shape.Close, here, refl),
      (
        Closed c.args.position,
        closed,
        L.close_task c.args.peg.now c.args.window.now c.args.more c.requires.some c.requires.sound c.args.node
            c.args.position here,
      ),
    )
