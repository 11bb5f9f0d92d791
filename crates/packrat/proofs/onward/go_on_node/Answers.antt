use Rattle.std.proofs.Common.{◌∙◌}
use Rattle.std.proofs.Common.{Some, ap}
use Rattle.pegnodes.specs.Nodes as shape
use Rattle.pegmatch.proofs.NodeShapeLemmas.{shape_at}
use Rattle.packrat.proofs.OnwardLemmas as M
use Rattle.packrat.proofs.onward.go_on_node.Goals as goal

pub returns-in-Failed : goal.returns-in-Failed
returns-in-Failed c = λ window more well some.
    let here = shape_at c.args.peg.now.nodes c.args.node _ (c.node.ensures ∙ ap Some c.in-Star.is) in
    (M.star_none c.args.peg.now window more some c.requires.sound c.args.node c.in-Star.field-0
    c.args.position
    c.args.found well here c.in-Failed.is)

pub returns-in-Took : goal.returns-in-Took
returns-in-Took c = λ window more well some.
    let here = shape_at c.args.peg.now.nodes c.args.node _ (c.node.ensures ∙ ap Some c.in-Star.is) in
    (M.star_more c.args.peg.now window more some c.requires.sound c.args.node c.in-Star.field-0
    c.args.position
    c.args.found well c.in-Took.end here c.in-Took.is)

pub returns-in-Failed-found : goal.returns-in-Failed-found
returns-in-Failed-found c = λ window more well some.
    let here = shape_at c.args.peg.now.nodes c.args.node _ (c.node.ensures ∙ ap Some c.in-Not.is) in
    (M.not_none c.args.peg.now window more some c.requires.sound c.args.node c.in-Not.field-0 c.args.position
    c.args.found well here c.in-Failed-found.is)

pub returns-in-Took-found : goal.returns-in-Took-found
returns-in-Took-found c = λ window more well some.
    let here = shape_at c.args.peg.now.nodes c.args.node _ (c.node.ensures ∙ ap Some c.in-Not.is) in
    (M.not_some c.args.peg.now window more some c.requires.sound c.args.node c.in-Not.field-0 c.args.position
    c.args.found well c.in-Took-found.field-0 here c.in-Took-found.is)

pub returns-in-Failed-found-2 : goal.returns-in-Failed-found-2
returns-in-Failed-found-2 c = λ window more well some.
    let here = shape_at c.args.peg.now.nodes c.args.node _ (c.node.ensures ∙ ap Some c.in-Plus.is) in
    (M.plus_none c.args.peg.now window more some c.requires.sound c.args.node c.in-Plus.operand
    c.args.position
    c.args.found well c.in-Plus.star here c.in-Failed-found-2.is)

pub returns-in-Took-found-2 : goal.returns-in-Took-found-2
returns-in-Took-found-2 c = λ window more well some.
    let here = shape_at c.args.peg.now.nodes c.args.node _ (c.node.ensures ∙ ap Some c.in-Plus.is) in
    (M.plus_more c.args.peg.now window more some c.requires.sound c.args.node c.in-Plus.operand
    c.args.position
    c.args.found well c.in-Plus.star c.in-Took-found-2.end here c.in-Took-found-2.is)

pub returns-in-Failed-found-3 : goal.returns-in-Failed-found-3
returns-in-Failed-found-3 c = λ window more well some.
    let here = shape_at c.args.peg.now.nodes c.args.node _ (c.node.ensures ∙ ap Some c.in-Opt.is) in
    (M.opt_nothing c.args.peg.now window more some c.requires.sound c.args.node c.in-Opt.field-0
    c.args.position
    c.args.found well here c.in-Failed-found-3.is)

pub returns-in-Took-found-3 : goal.returns-in-Took-found-3
returns-in-Took-found-3 c = λ window more well some.
    let here = shape_at c.args.peg.now.nodes c.args.node _ (c.node.ensures ∙ ap Some c.in-Opt.is) in
    (M.opt_some c.args.peg.now window more some c.requires.sound c.args.node c.in-Opt.field-0 c.args.position
    c.args.found well c.in-Took-found-3.field-0 here c.in-Took-found-3.is)

pub returns-in-Failed-found-4 : goal.returns-in-Failed-found-4
returns-in-Failed-found-4 c = λ window more well some.
    let here = shape_at c.args.peg.now.nodes c.args.node _ (c.node.ensures ∙ ap Some c.in-And.is) in
    (M.and_none c.args.peg.now window more some c.requires.sound c.args.node c.in-And.field-0 c.args.position
    c.args.found well here c.in-Failed-found-4.is)

pub returns-in-Took-found-4 : goal.returns-in-Took-found-4
returns-in-Took-found-4 c = λ window more well some.
    let here = shape_at c.args.peg.now.nodes c.args.node _ (c.node.ensures ∙ ap Some c.in-And.is) in
    (M.and_some c.args.peg.now window more some c.requires.sound c.args.node c.in-And.field-0 c.args.position
    c.args.found well c.in-Took-found-4.field-0 here c.in-Took-found-4.is)

pub returns-in-Name : goal.returns-in-Name
returns-in-Name c = λ window more well some.
    let here = shape_at c.args.peg.now.nodes c.args.node _ (c.node.ensures ∙ ap Some c.in-Name.is) in
    (M.name_on c.args.peg.now window more some c.requires.sound c.args.node c.in-Name.field-0 c.args.position
    c.args.found well here)

pub returns-in-Seq : goal.returns-in-Seq
returns-in-Seq c = λ window more well some.
    let here = shape_at c.args.peg.now.nodes c.args.node _ (c.node.ensures ∙ ap Some c.in-Seq.is) in
    (M.seq_on c.args.peg.now window more some c.requires.sound c.args.node c.args.position
    c.in-Seq.field-0.items
    c.args.found well here)

pub returns-in-Choice : goal.returns-in-Choice
returns-in-Choice c = λ window more well some.
    let here = shape_at c.args.peg.now.nodes c.args.node _ (c.node.ensures ∙ ap Some c.in-Choice.is) in
    (M.choice_on c.args.peg.now window more some c.requires.sound c.args.node c.args.position
    c.in-Choice.field-0.items
    c.args.found well here)

pub returns-in-Any : goal.returns-in-Any
returns-in-Any c = λ window more well some.
    let here = shape_at c.args.peg.now.nodes c.args.node _ (c.node.ensures ∙ ap Some c.in-Any.is) in
    (M.leaf_on c.args.peg.now window more some c.requires.sound c.args.node c.args.position (shape.Any)
    c.args.found
    here (λ j h. h))

pub returns-in-Bytes : goal.returns-in-Bytes
returns-in-Bytes c = λ window more well some.
    let here = shape_at c.args.peg.now.nodes c.args.node _ (c.node.ensures ∙ ap Some c.in-Bytes.is) in
    (M.leaf_on c.args.peg.now window more some c.requires.sound c.args.node c.args.position (shape.Bytes _)
    c.args.found here (λ j h. h))

pub returns-in-Set : goal.returns-in-Set
returns-in-Set c = λ window more well some.
    let here = shape_at c.args.peg.now.nodes c.args.node _ (c.node.ensures ∙ ap Some c.in-Set.is) in
    (M.leaf_on c.args.peg.now window more some c.requires.sound c.args.node c.args.position (shape.Set _)
    c.args.found
    here (λ j h. h))

pub returns-in-Act : goal.returns-in-Act
returns-in-Act c = λ window more well some.
    let here = shape_at c.args.peg.now.nodes c.args.node _ (c.node.ensures ∙ ap Some c.in-Act.is) in
    (M.leaf_on c.args.peg.now window more some c.requires.sound c.args.node c.args.position (shape.Act _)
    c.args.found
    here (λ j h. h))

pub returns-in-Open : goal.returns-in-Open
returns-in-Open c = λ window more well some.
    let here = shape_at c.args.peg.now.nodes c.args.node _ (c.node.ensures ∙ ap Some c.in-Open.is) in
    (M.leaf_on c.args.peg.now window more some c.requires.sound c.args.node c.args.position (shape.Open)
    c.args.found
    here (λ j h. h))

pub returns-in-Close : goal.returns-in-Close
returns-in-Close c = λ window more well some.
    let here = shape_at c.args.peg.now.nodes c.args.node _ (c.node.ensures ∙ ap Some c.in-Close.is) in
    (M.leaf_on c.args.peg.now window more some c.requires.sound c.args.node c.args.position (shape.Close)
    c.args.found
    here (λ j h. h))
