use Rattle.std.proofs.Common.{◌≡◌, drop, map}
use Rattle.abnfread.specs.AbnfViews.{rule_of, rules_of}
use Rattle.abnfprint.specs.CanonicalAbnf.{grammar_text}
use Rattle.ruletable.proofs.LeavesLemmas.{Leaves}
use Rattle.abnfprint.proofs.print.print_abnf.Given as goal

abbrev pub invariant-loop-id : goal.invariant-loop-id
invariant-loop-id g l = record {
  left : Leaves (g.W.Sink.contents l.fn.w) (g.W.Sink.contents l.w) (grammar_text (rules_of l.abnf.rules))
      (grammar_text (map rule_of (drop l.id l.abnf.rules.rules)));
  flag : g.W.Sink.failed l.w ≡ g.W.Sink.failed l.fn.w;
}
