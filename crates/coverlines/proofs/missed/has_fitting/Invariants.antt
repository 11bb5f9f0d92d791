-- None of the lists so far.
use Rattle.std.proofs.Common.{take}
use Rattle.coverlines.specs.MissedSteps.{HasMadeWithin}
use Rattle.coverlines.proofs.missed.has_fitting.Given as goal

abbrev pub invariant-loop-one : goal.invariant-loop-one
invariant-loop-one l = HasMadeWithin (take l.one-index l.made) l.way l.limit l.room → ⊥
