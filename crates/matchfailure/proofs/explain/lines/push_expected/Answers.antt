use Rattle.pegnodes.specs.Nodes.{shapes_of}
use Rattle.pegread.specs.PegViews.{rules_of}
use Rattle.matchfailure.specs.NoMatchLines.{expected_line}
use Rattle.matchfailure.proofs.ExpectedLinesLemmas.{expected-join, first-fit}
use Rattle.matchfailure.proofs.explain.lines.push_expected.Goals as goal

pub push_each-requires-clause-fitting : goal.push_each-requires-clause-fitting
push_each-requires-clause-fitting c = first-fit _ c.args.unit c.args.reported.now c.min-shown.result c.requires.fitting

pub returns : goal.returns
returns c =
    expected-join
    (expected_line (rules_of c.args.peg.now.rules) (shapes_of c.args.peg.now.nodes) c.args.peg.now.bodies c.args.unit
    c.args.position)
    c.args.reported.now c.min-shown.result _ _ _ c.min-shown.ensures c.in_ok-push_each.ensures
    c.in_ok-push_more.ensures
