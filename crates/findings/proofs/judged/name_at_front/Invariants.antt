use Rattle.std.proofs.Common.{◌≡◌, length}
use Rattle.findings.specs.FirstRules.{name_in_front}
use Rattle.findings.proofs.judged.name_at_front.Given as goal

abbrev pub invariant-loop-first : goal.invariant-loop-first
invariant-loop-first l = name_in_front l.rest ≡ name_in_front l.line

abbrev pub decreases-loop-first : goal.decreases-loop-first
decreases-loop-first l = length l.rest
