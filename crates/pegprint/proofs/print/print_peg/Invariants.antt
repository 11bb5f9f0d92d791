use Rattle.std.proofs.Common.{◌≡◌, drop, map}
use Rattle.pegprint.specs.Canon.{grammar_text}
use Rattle.pegread.specs.PegViews.{rule_of, rules_of}
use Rattle.ruletable.proofs.LeavesLemmas.{Leaves}
use Rattle.pegprint.proofs.print.print_peg.Given as goal

abbrev pub invariant-loop-id : goal.invariant-loop-id
invariant-loop-id g l = record {
  left : Leaves (g.W.Sink.contents l.fn.w) (g.W.Sink.contents l.w) (grammar_text (rules_of l.peg.rules))
      (grammar_text (map rule_of (drop l.id l.peg.rules.rules)));
  flag : g.W.Sink.failed l.w ≡ g.W.Sink.failed l.fn.w;
}
