use Rattle.std.proofs.Common.{◌≡◌, ◌+◌, length, true}
use Rattle.findings.specs.NameColumns.{word_from}
use Rattle.findings.proofs.words.word_column.Given as goal

abbrev pub invariant-loop-first : goal.invariant-loop-first
invariant-loop-first l = record {
  size : l.column + length l.rest ≡ length l.line + 1;
  same : word_from l.names l.name l.column l.is_free l.rest ≡ word_from l.names l.name 1 true l.line;
}

abbrev pub decreases-loop-first : goal.decreases-loop-first
decreases-loop-first l = length l.rest
