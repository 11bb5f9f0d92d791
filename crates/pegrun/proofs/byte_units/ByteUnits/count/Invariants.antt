use Rattle.std.proofs.Common.{◌≡◌, ◌+◌, length}
use Rattle.std.specs.List.{prefix_len}
use Rattle.pegrun.specs.ByteUnits.{is_known}
use Rattle.pegrun.proofs.byte_units.ByteUnits.count.Given as goal

abbrev pub invariant-loop-first : goal.invariant-loop-first
invariant-loop-first l = record {
  size : l.count + length l.rest ≡ length l.bytes;
  same : l.count + prefix_len (is_known l.self) l.rest ≡ prefix_len (is_known l.self) l.bytes;
}

abbrev pub decreases-loop-first : goal.decreases-loop-first
decreases-loop-first l = length l.rest
