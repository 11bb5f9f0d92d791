use Rattle.std.proofs.Common.{◌≡◌, drop}
use Rattle.abnfread.specs.AbnfViews.{elements_of}
use Rattle.abnfprint.specs.CanonicalAbnf.{joined}
use Rattle.ruletable.proofs.LeavesLemmas.{Leaves}
use Rattle.abnfprint.proofs.LeftTextLemmas.{left_of}
use Rattle.abnfprint.proofs.print.+printing.Given as goal

abbrev pub invariant-print_all-loop-i : goal.invariant-print_all-loop-i
invariant-print_all-loop-i g l = record {
  left : Leaves (g.W.Sink.contents l.fn.w) (g.W.Sink.contents l.w) (joined l.position l.mark (elements_of l.es))
      (left_of l.position l.mark l.i (elements_of (drop l.i l.es)));
  flag : g.W.Sink.failed l.w ≡ g.W.Sink.failed l.fn.w;
}
