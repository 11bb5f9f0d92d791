use Rattle.std.proofs.Common.{◌≡◌, drop}
use Rattle.pegprint.specs.Canon.{joined}
use Rattle.pegread.specs.PegViews.{patterns_of}
use Rattle.ruletable.proofs.LeavesLemmas.{Leaves}
use Rattle.pegprint.proofs.LeftOfLemmas.{left_of}
use Rattle.pegprint.proofs.print.+printing.Given as goal

abbrev pub invariant-print_all-loop-i : goal.invariant-print_all-loop-i
invariant-print_all-loop-i g l = record {
  left : Leaves (g.W.Sink.contents l.fn.w) (g.W.Sink.contents l.w) (joined l.position l.mark (patterns_of l.es))
      (left_of l.position l.mark l.i (patterns_of (drop l.i l.es)));
  flag : g.W.Sink.failed l.w ≡ g.W.Sink.failed l.fn.w;
}
