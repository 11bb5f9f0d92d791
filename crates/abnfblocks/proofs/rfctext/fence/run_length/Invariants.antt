use Rattle.std.proofs.Common.{◌≡◌, ◌+◌, length}
use Rattle.abnfblocks.specs.Fences.{byte_run}
use Rattle.abnfblocks.proofs.rfctext.fence.run_length.Given as goal

abbrev pub invariant-loop-first : goal.invariant-loop-first
invariant-loop-first l = record {
  size : l.size + length l.rest ≡ length l.text;
  same : l.size + byte_run l.byte l.rest ≡ byte_run l.byte l.text;
}

abbrev pub decreases-loop-first : goal.decreases-loop-first
decreases-loop-first l = length l.rest
