use Rattle.std.proofs.Common.{◌+◌, ◌-◌, ◌<◌, arith}
use Rattle.std.proofs.lemmas.List.{length-map}
use Rattle.std.proofs.lemmas.Result.{IfOk-weaker}
use Rattle.pegnodes.specs.Nodes.{shape_of, shapes_of}
use Rattle.pegnodes.proofs.NodeSpellsLemmas.{is_there}
use Rattle.pegread.specs.PegViews.{rules_of}
use Rattle.matchfailure.proofs.RuleOfNodeLemmas.{body-after}
use Rattle.matchfailure.proofs.UseRowsLemmas.{body-named, first-after, first-of-all}
use Rattle.matchfailure.proofs.explain.uses.names_of.Goals as goal

pub returns-then-id-eq0 : goal.returns-then-id-eq0
returns-then-id-eq0 c = IfOk-weaker c.names_between.result _ _ (λ row named last at.
    body-named (shapes_of c.args.peg.now.nodes) c.args.peg.now.bodies row.items c.args.id 0 last c.body_node-last.result
    (first-of-all c.args.peg.now.bodies c.args.id c.if-id-eq0.true) at c.body_node-last.ensures named)
    c.names_between.ensures

pub returns : goal.returns
returns c = IfOk-weaker c.names_between-2.result _ _ (λ row named last at.
    body-named (shapes_of c.args.peg.now.nodes) c.args.peg.now.bodies row.items c.args.id
    (c.body_node-first.result + 1) last c.body_node-last.result
    (first-after c.args.peg.now.bodies c.args.id c.body_node-first.result c.if-id-eq0.false c.body_node-first.ensures)
    at c.body_node-last.ensures named)
    c.names_between-2.ensures

pub overflow_add-first : goal.overflow_add-first
overflow_add-first c =
    let earlier : c.args.id - 1 < c.args.id = omega (arith, c.if-id-eq0.false) in
    let less = body-after c.args.peg.now c.requires.numbered (c.args.id - 1) c.args.id c.body_node-first.result
    c.body_node-last.result earlier c.body_node-first.ensures c.body_node-last.ensures in
    omega (arith, less)

pub names_between-requires-clause-within : goal.names_between-requires-clause-within
names_between-requires-clause-within c =
    let there = is_there (rules_of c.args.peg.now.rules) (shapes_of c.args.peg.now.nodes)
    (c.requires.sound.spelled.spelled c.args.id c.body_node-last.result c.body_node-last.ensures).2 in
    omega (arith, there, length-map c.args.peg.now.nodes shape_of)

pub names_between-requires-2-clause-order : goal.names_between-requires-2-clause-order
names_between-requires-2-clause-order c =
    let earlier : c.args.id - 1 < c.args.id = omega (arith, c.if-id-eq0.false) in
    let less = body-after c.args.peg.now c.requires.numbered (c.args.id - 1) c.args.id c.body_node-first.result
    c.body_node-last.result earlier c.body_node-first.ensures c.body_node-last.ensures in
    omega (arith, less)

pub names_between-requires-2-clause-within : goal.names_between-requires-2-clause-within
names_between-requires-2-clause-within c =
    let there = is_there (rules_of c.args.peg.now.rules) (shapes_of c.args.peg.now.nodes)
    (c.requires.sound.spelled.spelled c.args.id c.body_node-last.result c.body_node-last.ensures).2 in
    omega (arith, there, length-map c.args.peg.now.nodes shape_of)
