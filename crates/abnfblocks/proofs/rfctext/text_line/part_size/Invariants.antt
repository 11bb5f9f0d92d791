use Rattle.std.proofs.Common.{◌≡◌, ◌+◌, ◌==◌, not, length}
use Rattle.std.specs.List.{prefix_len}
use Rattle.abnfblocks.proofs.rfctext.text_line.part_size.Given as goal

abbrev pub invariant-loop-first : goal.invariant-loop-first
invariant-loop-first l = record {
  size : l.size + length l.left ≡ length l.rest;
  same : l.size + prefix_len (λ b. not (b == 10)) l.left ≡ prefix_len (λ b. not (b == 10)) l.rest;
}

abbrev pub decreases-loop-first : goal.decreases-loop-first
decreases-loop-first l = length l.left
