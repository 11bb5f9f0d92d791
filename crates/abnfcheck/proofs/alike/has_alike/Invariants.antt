-- None of the symbols so far is alike.
use Rattle.abnfread.specs.AbnfViews.{rules_of}
use Rattle.abnfcheck.specs.AlikeSymbols.{AreAlikeInRules}
use Rattle.abnfcheck.proofs.NewSymbolsLemmas.{HasNoneTo}
use Rattle.abnfcheck.proofs.alike.has_alike.Given as goal

abbrev pub invariant-loop-symbol : goal.invariant-loop-symbol
invariant-loop-symbol l = HasNoneTo (AreAlikeInRules (rules_of l.rules)) l.symbols l.symbol-index l.other
