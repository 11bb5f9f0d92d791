use Rattle.std.proofs.Common.{◌≡◌, ◌+◌, ◌==◌, not, length}
use Rattle.std.specs.List.{prefix_len}
use Rattle.rfcforms.proofs.lists.written.line_size.Given as goal

abbrev pub invariant-loop-first : goal.invariant-loop-first
invariant-loop-first l = record {
  size : l.size + length l.rest ≡ length l.text + 1;
  same : l.size + prefix_len (λ b. not (b == 10)) l.rest ≡ prefix_len (λ b. not (b == 10)) l.text + 1;
}

abbrev pub decreases-loop-first : goal.decreases-loop-first
decreases-loop-first l = length l.rest
