use Rattle.std.proofs.Common.{◌≡◌, length, arith, subst, ap, ◌∙◌, option_map}
use Rattle.std.proofs.lemmas.List.{length-map}
use Rattle.std.proofs.lemmas.Option.{slice_get-map}
use Rattle.pegnodes.specs.Namers.{AreNamersTo, name_rows, names_of}
use Rattle.pegnodes.specs.Nodes.{shape_of, shapes_of}
use Rattle.pegnodes.proofs.HasShapeLemmas.{node_at}
use Rattle.pegnodes.proofs.NamersLemmas as o
use Rattle.pegnodes.proofs.namers.add_nodes.Goals as goal

pub loop-n-init : goal.loop-n-init
loop-n-init c = λ m. o.names_none (name_rows c.args.bodies.now (shapes_of c.args.nodes.now)) m _

pub loop-n-preserved : goal.loop-n-preserved
loop-n-preserved c =
    let at = node_at _ _ _ c.loop-n-test.true c.index-nodes-n.is in
    c.add_node.ensures.named (name_rows c.args.bodies.now (shapes_of c.args.nodes.now))
    (slice_get-map (names_of c.args.bodies.now) (shapes_of c.args.nodes.now) c.loop-n.n
    ∙ ap (option_map (names_of c.args.bodies.now)) at)
    c.loop-n.invariant

pub returns-clause-named : goal.returns-clause-named
returns-clause-named c =
    let rows = length-map (shapes_of c.args.nodes.now) (names_of c.args.bodies.now) in
    let shapes = length-map c.args.nodes.now shape_of in
    let end : c.loop-n.n ≡ length (name_rows c.args.bodies.now (shapes_of c.args.nodes.now)) =
    omega (arith, c.loop-n-test.false, c.loop-n.auto.n-end, rows, shapes) in
    subst (λ v. AreNamersTo (name_rows c.args.bodies.now (shapes_of c.args.nodes.now)) v 0 c.loop-n.namers) end
    c.loop-n.invariant
