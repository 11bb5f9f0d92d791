use Rattle.std.proofs.Common.{◌≡◌, ◌≤◌, length, map, drop, reverse}
use Rattle.abnfblocks.specs.MaskSteps.{each_longest, longest_closing}
use Rattle.abnfblocks.specs.TextLines.{numbered}
use Rattle.abnfblocks.proofs.rfctext.masked.longest_lengths.Given as goal

abbrev pub invariant-loop-first : goal.invariant-loop-first
invariant-loop-first l = record {
  within : l.first ≤ length l.lines;
  longest : l.longest ≡ longest_closing l.mark (drop l.first (map numbered l.lines));
  each : reverse l.lengths.items ≡ each_longest l.mark (drop l.first (map numbered l.lines));
}

abbrev pub decreases-loop-first : goal.decreases-loop-first
decreases-loop-first l = l.first
