use Rattle.std.proofs.Common.{◌≡◌, ◌+◌, ◌||◌, ◌==◌, not, length}
use Rattle.std.specs.List.{prefix_len}
use Rattle.abnfblocks.specs.RuleLines.{is_margin}
use Rattle.abnfblocks.proofs.rfctext.fence.first_word.Given as goal

abbrev pub invariant-loop-first : goal.invariant-loop-first
invariant-loop-first l = record {
  size : l.size + length l.rest ≡ length l.text;
  same : l.size + prefix_len (λ b. not (is_margin b || (b == l.end))) l.rest
      ≡ prefix_len (λ b. not (is_margin b || (b == l.end))) l.text;
}

abbrev pub decreases-loop-first : goal.decreases-loop-first
decreases-loop-first l = length l.rest
