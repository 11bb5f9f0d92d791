use Rattle.std.proofs.Common.{◌≡◌, ◌+◌, length}
use Rattle.std.specs.List.{prefix_len}
use Rattle.abnfread.specs.AbnfSlices.{continues_name}
use Rattle.rfcvalues.proofs.sketch.first_name.Given as goal

abbrev pub invariant-loop-first : goal.invariant-loop-first
invariant-loop-first l = record {
  size : l.size + length l.rest ≡ length l.text;
  same : l.size + prefix_len continues_name l.rest ≡ prefix_len continues_name l.text;
}

abbrev pub decreases-loop-first : goal.decreases-loop-first
decreases-loop-first l = length l.rest
