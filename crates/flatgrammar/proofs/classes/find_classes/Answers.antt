use Rattle.std.proofs.Common.{subst}
use Rattle.flatgrammar.specs.FlatViews.{nodes_of}
use Rattle.flatgrammar.specs.NodeSteps.{flat_of}
use Rattle.flatgrammar.specs.ClassBounds.{AreNodesSplit}
use Rattle.flatgrammar.proofs.AreClassesLemmas.{classes_made}
use Rattle.flatgrammar.proofs.classes.find_classes.Goals as goal

pub returns : goal.returns
returns c =
    classes_made (flat_of c.args.tables.now) c.empty_bounds-bounds.result.numbers.items
    c.add_bound.new.bounds.numbers.items c.add_nodes.new.bounds.numbers.items c.ascend.new.bounds.items
    c.deref-2.result.now c.low_classes-low.result c.deref-2.ensures.value c.in_ok-add_bound.ensures
    c.in_ok-add_nodes.ensures.more
    (subst (λ v. AreNodesSplit c.add_nodes.new.bounds.numbers.items (nodes_of v)) c.deref.ensures.value
    c.in_ok-add_nodes.ensures.split) c.ascend.ensures.more c.ascend.ensures.ordered c.low_classes-low.ensures
