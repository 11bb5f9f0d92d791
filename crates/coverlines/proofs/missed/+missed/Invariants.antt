-- The goals within the members so far, and within the alternatives so far.
use Rattle.std.proofs.Common.{List, take}
use Rattle.abnfread.specs.AbnfViews.{elements_of}
use Rattle.abnfread.specs.Element.{Alt, Concat, Rule}
use Rattle.coverlines.specs.KnownWords.{AreKnownOf}
use Rattle.coverlines.specs.MissedGoals.{goals_from}
use Rattle.coverlines.specs.MissedSteps.{AddsGoals}
use Rattle.coverlines.proofs.missed.+missed.Given as goal

abbrev pub invariant-add_in_members-loop-i : goal.invariant-add_in_members-loop-i
invariant-add_in_members-loop-i l = (rules : List Rule) → AreKnownOf l.words rules
    → AddsGoals l.words.bounds rules l.rule (Concat (elements_of l.members)) l.room
    (goals_from 0 (elements_of (take l.i l.members))) l.fn.found.items l.found.items

abbrev pub invariant-add_in_alternatives-loop-alternative : goal.invariant-add_in_alternatives-loop-alternative
invariant-add_in_alternatives-loop-alternative l = (rules : List Rule) → AreKnownOf l.words rules
    → AddsGoals l.words.bounds rules l.rule (Alt (elements_of l.alternatives)) l.room
    (goals_from 0 (elements_of (take l.alternative-index l.alternatives))) l.fn.found.items l.found.items
