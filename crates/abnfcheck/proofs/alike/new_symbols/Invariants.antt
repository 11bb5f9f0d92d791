-- The new ones so far.
use Rattle.abnfread.specs.AbnfViews.{rules_of}
use Rattle.abnfcheck.specs.AlikeSymbols.{AreAlikeInRules}
use Rattle.abnfcheck.specs.NewSymbols.{AreNewTo}
use Rattle.abnfcheck.proofs.alike.new_symbols.Given as goal

abbrev pub invariant-loop-index : goal.invariant-loop-index
invariant-loop-index l = AreNewTo (AreAlikeInRules (rules_of l.rules)) l.symbols l.index l.news.items
