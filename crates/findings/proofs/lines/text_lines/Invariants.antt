use Rattle.std.proofs.Common.{◌≡◌, ◌≤◌, ◌++◌, ◌+◌, [], length, map, take, drop}
use Rattle.findings.specs.NameColumns.{lines_continued}
use Rattle.findings.proofs.lines.text_lines.Given as goal

abbrev pub invariant-loop-first : goal.invariant-loop-first
invariant-loop-first l = record {
  rest : drop l.size l.line ≡ l.rest;
  size : l.size + length l.rest ≡ length l.line;
  within : length l.line ≤ length l.text;
  same : map (λ x. x.now) l.lines.items ++ lines_continued l.rule (take l.size l.line) l.rest
      ≡ lines_continued l.rule [] l.text;
}

abbrev pub decreases-loop-first : goal.decreases-loop-first
decreases-loop-first l = length l.rest
