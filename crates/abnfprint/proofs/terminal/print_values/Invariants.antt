use Rattle.std.proofs.Common.{◌≡◌, drop}
use Rattle.abnfread.specs.Element.{Values}
use Rattle.abnfprint.specs.CanonicalAbnf.{text_of}
use Rattle.ruletable.proofs.LeavesLemmas.{Leaves}
use Rattle.abnfprint.proofs.LeftTextLemmas.{values_left}
use Rattle.abnfprint.proofs.terminal.print_values.Given as goal

abbrev pub invariant-loop-i : goal.invariant-loop-i
invariant-loop-i g l = record {
  left : Leaves (g.W.Sink.contents l.fn.w) (g.W.Sink.contents l.w) (text_of (Values l.values))
      (values_left l.i (drop l.i l.values));
  flag : g.W.Sink.failed l.w ≡ g.W.Sink.failed l.fn.w;
}
