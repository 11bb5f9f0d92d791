use Rattle.std.proofs.Common.{◌≡◌, ◌+◌, length}
use Rattle.std.specs.List.{prefix_len}
use Rattle.abnfblocks.specs.LineKinds.{is_feed}
use Rattle.abnfblocks.proofs.rfctext.line_tests.count_feeds.Given as goal

abbrev pub invariant-loop-first : goal.invariant-loop-first
invariant-loop-first l = record {
  size : l.size + length l.rest ≡ length l.line;
  same : l.size + prefix_len is_feed l.rest ≡ prefix_len is_feed l.line;
}

abbrev pub decreases-loop-first : goal.decreases-loop-first
decreases-loop-first l = length l.rest
