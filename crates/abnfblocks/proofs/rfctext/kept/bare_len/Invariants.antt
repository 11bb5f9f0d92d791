use Rattle.std.proofs.Common.{◌≡◌, ◌+◌, ◌≤◌, length, map, take}
use Rattle.std.specs.List.{suffix_len}
use Rattle.abnfblocks.specs.KeptSteps.{is_blank_kind}
use Rattle.abnfblocks.specs.TextLines.{numbered}
use Rattle.abnfblocks.proofs.rfctext.kept.bare_len.Given as goal

abbrev pub invariant-loop-size : goal.invariant-loop-size
invariant-loop-size l = record {
  within : l.size ≤ length l.lines;
  same : l.size + suffix_len (λ line. is_blank_kind line.kind) (map numbered l.lines)
      ≡ length l.lines + suffix_len (λ line. is_blank_kind line.kind) (take l.size (map numbered l.lines));
}

abbrev pub decreases-loop-size : goal.decreases-loop-size
decreases-loop-size l = l.size
