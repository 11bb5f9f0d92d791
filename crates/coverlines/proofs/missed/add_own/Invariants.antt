-- The ways so far.
use Rattle.std.proofs.Common.{List, map, take}
use Rattle.abnfread.specs.AbnfViews.{element_of}
use Rattle.abnfread.specs.Element.{Rule}
use Rattle.coverlines.specs.KnownWords.{AreKnownOf}
use Rattle.coverlines.specs.MissedGoals.{own_goal}
use Rattle.coverlines.specs.MissedSteps.{AddsGoals}
use Rattle.coverlines.proofs.missed.add_own.Given as goal

abbrev pub invariant-loop-way : goal.invariant-loop-way
invariant-loop-way l = (rules : List Rule) → AreKnownOf l.words rules
    → AddsGoals l.words.bounds rules l.rule (element_of l.e) l.room
    (map (own_goal (element_of l.e)) (take l.way-index l.way-items))
    l.fn.found.items l.found.items
