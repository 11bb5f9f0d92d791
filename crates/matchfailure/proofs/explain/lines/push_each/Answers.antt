use Rattle.std.proofs.lemmas.Option.{slice_get-get_or}
use Rattle.pegnodes.specs.Nodes.{shapes_of}
use Rattle.pegread.specs.PegViews.{rules_of}
use Rattle.matchfailure.specs.NoMatchLines.{expected_line}
use Rattle.matchfailure.proofs.ExpectedLinesLemmas.{next-line}
use Rattle.matchfailure.proofs.explain.lines.push_each.Goals as goal

pub push_expected_line-requires-clause-node : goal.push_expected_line-requires-clause-node
push_expected_line-requires-clause-node c =
    let there = slice_get-get_or c.args.reported.now c.loop-visit.visit-index (record { node = 0; position = 0 })
    c.loop-visit-test.true in
    (c.requires.fitting _ (c.loop-visit.visit-index, there)).0

pub push_expected_line-requires-clause-begin : goal.push_expected_line-requires-clause-begin
push_expected_line-requires-clause-begin c =
    let there = slice_get-get_or c.args.reported.now c.loop-visit.visit-index (record { node = 0; position = 0 })
    c.loop-visit-test.true in
    (c.requires.fitting _ (c.loop-visit.visit-index, there)).1

pub loop-visit-preserved : goal.loop-visit-preserved
loop-visit-preserved c =
    next-line
    (expected_line (rules_of c.args.peg.now.rules) (shapes_of c.args.peg.now.nodes) c.args.peg.now.bodies c.args.unit
    c.args.position)
    c.args.reported.now c.loop-visit.visit-index (record { node = 0; position = 0 }) _ _ _ c.loop-visit-test.true
    c.loop-visit.invariant c.in_ok-push_expected_line.ensures
