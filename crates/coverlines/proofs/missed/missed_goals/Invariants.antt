-- The rules so far.
use Rattle.std.proofs.Common.{take}
use Rattle.abnfread.specs.AbnfViews.{rules_of}
use Rattle.coverlines.specs.MissedGoals.{AreMissedFrom}
use Rattle.coverlines.proofs.missed.missed_goals.Given as goal

abbrev pub invariant-loop-id : goal.invariant-loop-id
invariant-loop-id l = AreMissedFrom l.words.bounds (rules_of l.rules) l.judged 0 (take l.id (rules_of l.rules))
    l.found.items
