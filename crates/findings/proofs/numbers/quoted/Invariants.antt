use Rattle.std.proofs.Common.{◌≡◌, length}
use Rattle.findings.specs.MessageParts.{quoted_in}
use Rattle.findings.proofs.numbers.quoted.Given as goal

abbrev pub invariant-loop-first : goal.invariant-loop-first
invariant-loop-first l = quoted_in l.rest ≡ quoted_in l.text

abbrev pub decreases-loop-first : goal.decreases-loop-first
decreases-loop-first l = length l.rest
