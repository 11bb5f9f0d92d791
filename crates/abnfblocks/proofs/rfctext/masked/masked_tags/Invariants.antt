use Rattle.std.proofs.Common.{◌≤◌, ◌-◌, [], true, length, map, drop}
use Rattle.abnfblocks.specs.OpenTags.{tag_size}
use Rattle.abnfblocks.specs.TextLines.{numbered}
use Rattle.abnfblocks.proofs.MaskedLinesLemmas.{Completes}
use Rattle.abnfblocks.proofs.rfctext.masked.masked_tags.Given as goal

-- the lines so far, and those to come with their tags masked, are all lines with theirs masked
abbrev pub invariant-loop-first : goal.invariant-loop-first
invariant-loop-first l = record {
  within : l.first ≤ length l.lines;
  masks : Completes tag_size (λ line. true) (map numbered l.lines) (drop l.first (map numbered l.lines)) []
      (map numbered l.out.items);
}

abbrev pub decreases-loop-first : goal.decreases-loop-first
decreases-loop-first l = length l.lines - l.first
