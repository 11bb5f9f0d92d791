use Rattle.std.proofs.Common.{◌≡◌, ◌≤◌, drop, length}
use Rattle.rfcvalues.specs.StatementLines.{line_rest}
use Rattle.rfcvalues.proofs.line.semicolon_size.Given as goal

abbrev pub invariant-loop-at : goal.invariant-loop-at
invariant-loop-at l = record {
  within : l.at ≤ length l.line;
  rest : l.rest ≡ line_rest (drop l.at l.line);
}

abbrev pub decreases-loop-at : goal.decreases-loop-at
decreases-loop-at l = l.at
