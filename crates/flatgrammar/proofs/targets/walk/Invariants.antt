use Rattle.flatgrammar.specs.Ways.{IsWalk}
use Rattle.flatgrammar.proofs.WalkLemmas.{ahead}
use Rattle.flatgrammar.proofs.targets.walk.Given as goal

abbrev pub invariant-loop-ways : goal.invariant-loop-ways
invariant-loop-ways l = IsWalk l.initial.ways l.start l.s l.path.items l.ways

abbrev pub decreases-loop-ways : goal.decreases-loop-ways
decreases-loop-ways l = ahead l.ways
