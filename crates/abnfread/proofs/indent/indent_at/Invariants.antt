use Rattle.std.proofs.Common.{◌≡◌, ◌+◌, length, take, Some}
use Rattle.abnfread.specs.MarkedTokens.{indent_from, plus}
use Rattle.abnfread.proofs.indent.indent_at.Given as goal

abbrev pub invariant-loop-last : goal.invariant-loop-last
invariant-loop-last l = record {
  size : l.size + length l.rest ≡ l.position;
  same : indent_from (Some 0) (take l.position l.text) ≡ plus l.size (indent_from (Some 0) l.rest);
}

abbrev pub decreases-loop-last : goal.decreases-loop-last
decreases-loop-last l = length l.rest
