use Rattle.std.proofs.Common.{◌≡◌, ◌+◌, ◌-◌, ◌≤◌, length, map, drop}
use Rattle.abnfblocks.specs.Fences.{lines_inside}
use Rattle.abnfblocks.specs.TextLines.{numbered}
use Rattle.abnfblocks.proofs.rfctext.masked.lines_inside.Given as goal

abbrev pub invariant-loop-count : goal.invariant-loop-count
invariant-loop-count l = record {
  within : l.count ≤ length l.lines;
  same : l.count + lines_inside l.mark l.size (drop l.count (map numbered l.lines))
      ≡ lines_inside l.mark l.size (map numbered l.lines);
}

abbrev pub decreases-loop-count : goal.decreases-loop-count
decreases-loop-count l = length l.lines - l.count
