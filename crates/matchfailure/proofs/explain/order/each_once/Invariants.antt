use Rattle.std.proofs.Common.{◌≡◌, length}
use Rattle.pegnodes.specs.Nodes.{shapes_of}
use Rattle.pegread.specs.PegViews.{rules_of}
use Rattle.ruletable.specs.Rules.{names_of}
use Rattle.ruletable.specs.declared.table.NameCase.TheVariants.{Exact}
use Rattle.matchfailure.specs.FittingFailures.{AreFitting}
use Rattle.matchfailure.specs.ReportOrder.{entry_text}
use Rattle.matchfailure.proofs.EachOnceLemmas.{AreAllReported}
use Rattle.matchfailure.proofs.explain.order.each_once.Given as goal

abbrev pub invariant-loop-key : goal.invariant-loop-key
invariant-loop-key l = record {
  exact : l.texts.names ≡ Exact;
  reported : AreAllReported (entry_text (rules_of l.peg.rules) l.peg.start
      (shapes_of l.peg.nodes) l.peg.bodies l.unit l.position)
      l.keys (names_of l.texts) l.reported.items l.key-index;
  fit : AreFitting (length l.peg.nodes) l.unit l.reported.items;
}
