-- The members so far, and the alternatives so far.
use Rattle.std.proofs.Common.{List, take}
use Rattle.abnfread.specs.AbnfViews.{elements_of}
use Rattle.abnfread.specs.Element.{Rule}
use Rattle.coverlines.specs.KnownWords.{AreKnownOf}
use Rattle.coverlines.specs.Shortest.{IsShortest, SpellsAll, SpellsSome}
use Rattle.coverlines.proofs.words.+shortest.Given as goal

abbrev pub invariant-shortest_all-loop-member : goal.invariant-shortest_all-loop-member
invariant-shortest_all-loop-member l = (rules : List Rule) → AreKnownOf l.words rules → IsShortest
    (SpellsAll l.words.bounds rules (elements_of (take l.member-index l.members))) l.words.bounds.limit l.all

abbrev pub invariant-shortest_some-loop-alternative : goal.invariant-shortest_some-loop-alternative
invariant-shortest_some-loop-alternative l = (rules : List Rule) → AreKnownOf l.words rules → IsShortest
    (SpellsSome l.words.bounds rules (elements_of (take l.alternative-index l.alternatives))) l.words.bounds.limit
    l.best
