-- In all exactly if in those that are left.
use Rattle.std.proofs.Common.{drop, ◌↔◌}
use Rattle.abnfread.specs.AbnfViews.{elements_of}
use Rattle.abnfcheck.specs.AlikeSymbols.{AreAlikeInAll}
use Rattle.abnfcheck.proofs.alike.+sets.Given as goal

abbrev pub invariant-are_alike-loop-member : goal.invariant-are_alike-loop-member
invariant-are_alike-loop-member l =
    AreAlikeInAll l.pair.first l.pair.second (elements_of (drop l.member-index l.members))
    ↔ AreAlikeInAll l.pair.first l.pair.second (elements_of l.members)
