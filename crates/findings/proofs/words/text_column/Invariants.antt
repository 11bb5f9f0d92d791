use Rattle.std.proofs.Common.{◌≡◌, ◌+◌, length}
use Rattle.findings.specs.NameColumns.{blanks_from}
use Rattle.findings.proofs.words.text_column.Given as goal

abbrev pub invariant-loop-first : goal.invariant-loop-first
invariant-loop-first l = record {
  size : l.column + length l.rest ≡ length l.line + 1;
  same : blanks_from l.column l.rest ≡ blanks_from 1 l.line;
}

abbrev pub decreases-loop-first : goal.decreases-loop-first
decreases-loop-first l = length l.rest
