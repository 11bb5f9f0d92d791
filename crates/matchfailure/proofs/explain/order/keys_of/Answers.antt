use Rattle.std.proofs.Common.{ap, ◌∙◌, sym}
use Rattle.std.proofs.lemmas.Option.{slice_get-get_or}
use Rattle.pegnodes.specs.Nodes.{shapes_of}
use Rattle.pegmatch.proofs.NodeShapeLemmas.{shape_at}
use Rattle.matchfailure.specs.ReportOrder.{leaf_kind}
use Rattle.matchfailure.proofs.EachOnceLemmas.{keys-more}
use Rattle.matchfailure.proofs.explain.order.keys_of.Goals as goal

pub node-requires : goal.node-requires
node-requires c = c.requires.nodes _ (
  c.loop-visit.visit-index,
  slice_get-get_or c.args.expected.now c.loop-visit.visit-index
      (record { node = 0; position = 0 }) c.loop-visit-test.true,
)

pub loop-visit-preserved : goal.loop-visit-preserved
loop-visit-preserved c =
    keys-more c.args.far.now (shapes_of c.args.peg.now.nodes) c.args.peg.now.bodies c.args.expected.now
    c.loop-visit.visit-index (record { node = 0; position = 0 }) c.loop-visit.keys.items c.push.new.self.items
    c.uses_to.result c.rule_of-rule.result c.kind_of-kind.result c.loop-visit-test.true c.rule_of-rule.ensures
    c.uses_to.ensures
    (c.kind_of-kind.ensures ∙ ap leaf_kind (sym (shape_at c.args.peg.now.nodes _ _ c.node.ensures)))
    c.loop-visit.invariant c.in_ok-push.ensures.items
