use Rattle.std.proofs.Common.{◌≡◌, ◌<◌, Some, length, refl, sym, subst}
use Rattle.std.specs.Prelude.{slice_get}
use Rattle.std.proofs.lemmas.Bool.{ltb-true}
use Rattle.pegnodes.specs.Decides.{marks_in}
use Rattle.pegnodes.specs.Nodes.{Choice, Star, shape_of, shapes_of}
use Rattle.pegnodes.proofs.ByteTablesLemmas.{placed_as, run_placed, choice_placed}
use Rattle.pegnodes.proofs.HasShapeLemmas.{node_at}
use Rattle.pegnodes.proofs.byte_tables.add_table.Goals as goal

pub returns-in-Some-Star-clause-added : goal.returns-in-Some-Star-clause-added
returns-in-Some-Star-clause-added c =
    let found = c.in-Some-Star.ensures.lookup in
    let low : c.args.n < length c.args.grammar.now.nodes.now =
    ltb-true c.args.n (length c.args.grammar.now.nodes.now) (sym found.0) in
    let at = node_at c.args.grammar.now.nodes.now c.args.n c.in-Some-Star.field-0.now low found.1 in
    placed_as _ _ c.add_run.result (run_placed (shapes_of c.args.grammar.now.nodes.now) c.args.grammar.now.bodies.now
    (marks_in c.args.grammar.now) c.add_run.new.runs.items c.args.tables.now.choices.items c.args.n
    c.in-Some-Star.operand (Star c.in-Some-Star.operand) (rw c.in-Some-Star.field-0-is at at) refl)
    c.add_run.ensures.added

pub returns-else-n-ge-MOST_NODES-clause-added : goal.returns-else-n-ge-MOST_NODES-clause-added
returns-else-n-ge-MOST_NODES-clause-added c =
    let found = c.in-Some-Choice.ensures.lookup in
    let low : c.args.n < length c.args.grammar.now.nodes.now =
    ltb-true c.args.n (length c.args.grammar.now.nodes.now) (sym found.0) in
    let at = node_at c.args.grammar.now.nodes.now c.args.n c.in-Some-Choice.field-0.now low found.1 in
    let here : slice_get (shapes_of c.args.grammar.now.nodes.now) c.args.n
    ≡ Some (Choice c.deref.result.now) =
    subst (λ v. slice_get (shapes_of c.args.grammar.now.nodes.now) c.args.n ≡ Some (Choice v))
    (sym c.deref.ensures.value) (rw c.in-Some-Choice.field-0-is at at) in
    placed_as _ _ c.add_choice.result (λ p h. choice_placed (shapes_of c.args.grammar.now.nodes.now)
    c.args.grammar.now.bodies.now (marks_in c.args.grammar.now) c.args.tables.now.runs.items
    c.add_choice.new.choices.items c.args.n c.deref.result.now here p (h c.args.n here))
    c.add_choice.ensures.added

pub returns-else-not-is_test-clause-added : goal.returns-else-not-is_test-clause-added
returns-else-not-is_test-clause-added c =
    let found = c.in-Some.ensures.lookup in
    let low : c.args.n < length c.args.grammar.now.nodes.now =
    ltb-true c.args.n (length c.args.grammar.now.nodes.now) (sym found.0) in
    let at = node_at c.args.grammar.now.nodes.now c.args.n c.in-Some.node.now low found.1 in
    placed_as _ _ c.add_run-in-Some.result (run_placed (shapes_of c.args.grammar.now.nodes.now)
    c.args.grammar.now.bodies.now
    (marks_in c.args.grammar.now) c.add_run-in-Some.new.runs.items c.args.tables.now.choices.items c.args.n c.args.n
    (shape_of c.in-Some.node.now) at (c.if-not-is_test.ensures refl c.args.n)) c.add_run-in-Some.ensures.added
