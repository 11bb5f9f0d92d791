use Rattle.std.proofs.Common.{◌≡◌, ◌∙◌, suc, ◌+◌, ◌<◌, ◌≤◌, length}
use Rattle.std.proofs.Common.{Some, subst, ap, arith}
use Rattle.pegnodes.specs.Nodes as shape
use Rattle.pegmatch.proofs.NodeShapeLemmas.{shape_at}
use Rattle.packrat.specs.Onward.{HasMember}
use Rattle.packrat.proofs.OnwardLemmas as M
use Rattle.memo.specs.declared.task.MatchTask.TheVariants.{Tail}
use Rattle.packrat.proofs.onward.go_on_tail.Goals as goal

pub node-requires : goal.node-requires
node-requires c =
    let w = c.requires.well in
    M.row_within c.args.peg.now w.0 (Tail c.args.node c.args.index c.args.position) w.1

pub overflow_add-index : goal.overflow_add-index
overflow_add-index c =
    let w = c.requires.well.1.2 in
    let here = shape_at c.args.peg.now.nodes c.args.node _ (c.node.ensures ∙ ap Some c.in-Seq.is) in
    let same : w.0 ≡ shape.Seq c.in-Seq.members.items = cc (w.1, here) in
    let lt : c.args.index < length c.in-Seq.members.items = subst (λ v. HasMember v c.args.index) same w.2 in
    omega arith

pub overflow_add-index-in-Failed-found : goal.overflow_add-index-in-Failed-found
overflow_add-index-in-Failed-found c =
    let w = c.requires.well.1.2 in
    let here = shape_at c.args.peg.now.nodes c.args.node _ (c.node.ensures ∙ ap Some c.in-Choice.is) in
    let same : w.0 ≡ shape.Choice c.in-Choice.alternatives.items = cc (w.1, here) in
    let lt : c.args.index < length c.in-Choice.alternatives.items = subst (λ v. HasMember v c.args.index) same w.2 in
    omega arith

pub returns-in-Failed : goal.returns-in-Failed
returns-in-Failed c = λ window more well some.
    let here = shape_at c.args.peg.now.nodes c.args.node _ (c.node.ensures ∙ ap Some c.in-Seq.is) in
    (M.member_none c.args.peg.now window more some c.requires.sound c.args.node c.args.index c.args.position
    c.in-Seq.members.items c.args.found well here c.in-Failed.is)

pub returns-then-index-len : goal.returns-then-index-len
returns-then-index-len c = λ window more well some.
    let here = shape_at c.args.peg.now.nodes c.args.node _ (c.node.ensures ∙ ap Some c.in-Seq.is) in
    let lt : c.args.index + 1 < length c.in-Seq.members.items = omega (arith, c.len.ensures, c.if-index-len.true) in
    let same : suc c.args.index ≡ c.args.index + 1 = omega arith in
    rw (c.tail_from.ensures, c.deref.ensures.value)
    (M.member_enters c.args.peg.now window more some c.requires.sound c.args.node c.args.index
    c.args.position
    c.in-Seq.members.items c.args.found well c.in-Took.end (c.args.index + 1) same here c.in-Took.is lt)

pub returns-else-index-len : goal.returns-else-index-len
returns-else-index-len c = λ window more well some.
    let here = shape_at c.args.peg.now.nodes c.args.node _ (c.node.ensures ∙ ap Some c.in-Seq.is) in
    let le : length c.in-Seq.members.items ≤ suc c.args.index = omega (arith, c.len.ensures, c.if-index-len.false) in
    (M.member_last c.args.peg.now window more some c.requires.sound c.args.node c.args.index c.args.position
    c.in-Seq.members.items c.args.found well c.in-Took.end here c.in-Took.is le)

pub returns-in-Took-found : goal.returns-in-Took-found
returns-in-Took-found c = λ window more well some.
    let here = shape_at c.args.peg.now.nodes c.args.node _ (c.node.ensures ∙ ap Some c.in-Choice.is) in
    (M.other_some c.args.peg.now window more some c.requires.sound c.args.node c.args.index c.args.position
    c.in-Choice.alternatives.items c.args.found well c.in-Took-found.field-0 here c.in-Took-found.is)

pub returns-then-index-len-2 : goal.returns-then-index-len-2
returns-then-index-len-2 c = λ window more well some.
    let here = shape_at c.args.peg.now.nodes c.args.node _ (c.node.ensures ∙ ap Some c.in-Choice.is) in
    let lt : c.args.index + 1 < length c.in-Choice.alternatives.items = omega (
      arith,
      c.len-in-Failed-found.ensures,
      c.if-index-len-2.true,
    ) in
    let same : suc c.args.index ≡ c.args.index + 1 = omega arith in
    rw (c.tail_from-then-index-len-2.ensures, c.deref-then-index-len-2.ensures.value)
    (M.other_enters c.args.peg.now window more some c.requires.sound c.args.node c.args.index c.args.position
    c.in-Choice.alternatives.items c.args.found well (c.args.index + 1) same here c.in-Failed-found.is lt)

pub returns-else-index-len-2 : goal.returns-else-index-len-2
returns-else-index-len-2 c = λ window more well some.
    let here = shape_at c.args.peg.now.nodes c.args.node _ (c.node.ensures ∙ ap Some c.in-Choice.is) in
    let le : length c.in-Choice.alternatives.items ≤ suc c.args.index = omega (
      arith,
      c.len-in-Failed-found.ensures,
      c.if-index-len-2.false,
    ) in
    (M.other_end c.args.peg.now window more some c.requires.sound c.args.node c.args.index c.args.position
    c.in-Choice.alternatives.items c.args.found well here c.in-Failed-found.is le)

pub returns-in_default : goal.returns-in_default
returns-in_default c = λ window more well some.
    let here = shape_at c.args.peg.now.nodes c.args.node _ c.node.ensures in
    let same : well.2.0 ≡ shape.shape_of c.node.result.now = cc (well.2.1, here) in
    let has : HasMember (shape.shape_of c.node.result.now) c.args.index =
    subst (λ v. HasMember v c.args.index) same well.2.2 in
    λ j h d. absurd (M.no_member c.args.index c.node.result.now c.in_default.not-Seq c.in_default.not-Choice has)
