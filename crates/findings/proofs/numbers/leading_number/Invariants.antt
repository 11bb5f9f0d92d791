use Rattle.std.proofs.Common.{◌≡◌, ◌≤◌, length}
use Rattle.findings.specs.MessageParts.{after_number, number_continued}
use Rattle.findings.proofs.numbers.leading_number.Given as goal

abbrev pub invariant-loop-first : goal.invariant-loop-first
invariant-loop-first l = record {
  most : l.number ≤ 99999999;
  number : number_continued l.number l.rest ≡ number_continued 0 l.bytes;
  rest : after_number l.rest ≡ after_number l.bytes;
}

abbrev pub decreases-loop-first : goal.decreases-loop-first
decreases-loop-first l = length l.rest
