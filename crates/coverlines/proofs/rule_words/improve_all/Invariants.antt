-- The rules so far.
use Rattle.abnfread.specs.AbnfViews.{rules_of}
use Rattle.coverlines.specs.KnownWords.{AreFound, ArePassed}
use Rattle.coverlines.proofs.rule_words.improve_all.Given as goal

abbrev pub invariant-loop-id : goal.invariant-loop-id
invariant-loop-id l = record {
  found : AreFound l.bounds (rules_of l.rules) l.known.items;
  passed : ArePassed l.bounds (rules_of l.rules) l.id l.fn.known.items l.known.items l.improved;
}
