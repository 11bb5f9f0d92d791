-- In the bodies so far.
use Rattle.abnfread.specs.AbnfViews.{rules_of}
use Rattle.abnfcheck.proofs.AlikeSymbolsLemmas.{AreAlikeTo}
use Rattle.abnfcheck.proofs.alike.are_rules_alike.Given as goal

abbrev pub invariant-loop-id : goal.invariant-loop-id
invariant-loop-id l = AreAlikeTo (rules_of l.rules) l.pair.first l.pair.second l.id
