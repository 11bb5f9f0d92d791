-- The sites through the members so far, and through the alternatives so far.
use Rattle.std.proofs.Common.{List, map}
use Rattle.abnfread.specs.AbnfViews.{elements_of}
use Rattle.abnfread.specs.Element.{Alt, Concat, Rule}
use Rattle.coverlines.specs.KnownWords.{AreKnownOf}
use Rattle.coverlines.specs.Sites.{AreSitesTo, stood_of}
use Rattle.coverlines.proofs.sites.+sites.Given as goal

abbrev pub invariant-add_members-loop-i : goal.invariant-add_members-loop-i
invariant-add_members-loop-i l = (rules : List Rule) → AreKnownOf l.words rules
    → AreSitesTo l.words.bounds rules (Concat (elements_of l.members)) 0 (map stood_of l.fn.found.items)
    → AreSitesTo l.words.bounds rules (Concat (elements_of l.members)) l.i (map stood_of l.found.items)

abbrev pub invariant-add_alternatives-loop-alternative : goal.invariant-add_alternatives-loop-alternative
invariant-add_alternatives-loop-alternative l = (rules : List Rule) → AreKnownOf l.words rules
    → AreSitesTo l.words.bounds rules (Alt (elements_of l.alternatives)) 0 (map stood_of l.fn.found.items)
    → AreSitesTo l.words.bounds rules (Alt (elements_of l.alternatives)) l.alternative-index
    (map stood_of l.found.items)
