use Rattle.std.proofs.Common.{◌≡◌, length, reverse}
use Rattle.pegnodes.specs.Templates.{cut_front}
use Rattle.pegmatch.proofs.escapes.without_end.Given as goal

abbrev pub invariant-loop-last : goal.invariant-loop-last
invariant-loop-last l = cut_front (reverse l.rest) ≡ cut_front (reverse l.text)

abbrev pub decreases-loop-last : goal.decreases-loop-last
decreases-loop-last l = length l.rest
