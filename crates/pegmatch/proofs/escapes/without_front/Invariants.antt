use Rattle.std.proofs.Common.{◌≡◌, length}
use Rattle.pegnodes.specs.Templates.{cut_front}
use Rattle.pegmatch.proofs.escapes.without_front.Given as goal

abbrev pub invariant-loop-first : goal.invariant-loop-first
invariant-loop-first l = cut_front l.rest ≡ cut_front l.text

abbrev pub decreases-loop-first : goal.decreases-loop-first
decreases-loop-first l = length l.rest
