use Rattle.std.proofs.Common.{◌≡◌, ◌+◌, length}
use Rattle.findings.specs.MessageParts.{distance_to_quote}
use Rattle.findings.proofs.numbers.quote_distance.Given as goal

abbrev pub invariant-loop-first : goal.invariant-loop-first
invariant-loop-first l = record {
  size : l.size + length l.rest ≡ length l.bytes;
  same : l.size + distance_to_quote l.rest ≡ distance_to_quote l.bytes;
}

abbrev pub decreases-loop-first : goal.decreases-loop-first
decreases-loop-first l = length l.rest
