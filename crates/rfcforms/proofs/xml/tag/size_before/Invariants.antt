use Rattle.std.proofs.Common.{◌≡◌, ◌+◌, ◌==◌, not, length}
use Rattle.std.specs.List.{prefix_len}
use Rattle.rfcforms.proofs.xml.tag.size_before.Given as goal

abbrev pub invariant-loop-first : goal.invariant-loop-first
invariant-loop-first l = record {
  size : l.size + length l.rest ≡ length l.text;
  same : l.size + prefix_len (λ b. not (b == l.byte)) l.rest ≡ prefix_len (λ b. not (b == l.byte)) l.text;
}

abbrev pub decreases-loop-first : goal.decreases-loop-first
decreases-loop-first l = length l.rest
