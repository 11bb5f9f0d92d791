use Rattle.std.proofs.Common.{◌≡◌, ◌+◌, length, map}
use Rattle.refusedlines.specs.RefusedText.{column_after}
use Rattle.refusedlines.proofs.explained.column_after.Given as goal

abbrev pub invariant-loop-last : goal.invariant-loop-last
invariant-loop-last g l = record {
  size : l.column + length l.rest ≡ length l.symbols + 1;
  same : l.column + column_after (map g.L.Letter.number l.rest) ≡ column_after (map g.L.Letter.number l.symbols) + 1;
}

abbrev pub decreases-loop-last : goal.decreases-loop-last
decreases-loop-last g l = length l.rest
