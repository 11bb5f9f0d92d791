-- The alternatives so far.
use Rattle.std.proofs.Common.{List, []}
use Rattle.abnfread.specs.AbnfViews.{elements_of}
use Rattle.abnfread.specs.Element.{Alt, Rule}
use Rattle.coverlines.specs.KnownWords.{AreKnownOf}
use Rattle.coverlines.specs.MadeWords.{AddsMade}
use Rattle.coverlines.proofs.MadeLemmas.{IsChosenBelow}
use Rattle.coverlines.proofs.made.alt_made.Given as goal

abbrev pub invariant-loop-i : goal.invariant-loop-i
invariant-loop-i l = (rules : List Rule) → AreKnownOf l.words rules
    → AddsMade l.words.bounds rules (Alt (elements_of l.alternatives)) (IsChosenBelow l.i) [] l.found.items
