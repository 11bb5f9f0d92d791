use Rattle.std.proofs.Common.{◌≡◌, ◌+◌, ◌≤◌, length, map, drop, reverse}
use Rattle.abnfblocks.specs.MaskSteps.{each_tag}
use Rattle.abnfblocks.specs.OpenTags.{tag_left}
use Rattle.abnfblocks.specs.TextLines.{numbered}
use Rattle.abnfblocks.proofs.rfctext.tag.tag_sizes.Given as goal

abbrev pub invariant-loop-first : goal.invariant-loop-first
invariant-loop-first l = record {
  within : l.first ≤ length l.lines;
  left : l.left ≡ tag_left (drop l.first (map numbered l.lines));
  small : l.left + l.first ≤ length l.lines;
  each : reverse l.sizes.items ≡ each_tag (drop l.first (map numbered l.lines));
}

abbrev pub decreases-loop-first : goal.decreases-loop-first
decreases-loop-first l = l.first
