use Rattle.std.proofs.Common.{◌<◌, length, sym}
use Rattle.std.proofs.lemmas.Bool.{ltb-true}
use Rattle.pegnodes.specs.Nodes.{shape_of, shapes_of}
use Rattle.pegnodes.proofs.HasShapeLemmas.{node_at}
use Rattle.pegnodes.proofs.KeyNeedsLemmas as o
use Rattle.pegnodes.proofs.keys.goes_on.Goals as goal

pub returns-in-Some : goal.returns-in-Some
returns-in-Some c =
    let found = c.in-Some.ensures.lookup in
    let low : c.args.n < length c.args.nodes.now = ltb-true c.args.n (length c.args.nodes.now) (sym found.0) in
    o.goes_there (shapes_of c.args.nodes.now) c.args.n (shape_of c.in-Some.node.now)
    (node_at c.args.nodes.now c.args.n c.in-Some.node.now low found.1) c.step_of.result c.step_of.ensures
