use Rattle.std.proofs.Common.{List, ℕ, length, ◌≤◌, ◌⊎◌}
use Rattle.abnfread.specs.AbnfSlices.{Dotted}
use Rattle.abnfread.proofs.scan.after_dotted.Given as goal

-- whatever ends the rest ends the whole, and what ends the whole ends the rest or before it
abbrev pub invariant-loop-tail : goal.invariant-loop-tail
invariant-loop-tail l = record {
  on : (s : List ℕ) → Dotted l.base l.rest s → Dotted l.base l.text s;
  back : (s : List ℕ) → Dotted l.base l.text s → (length l.rest ≤ length s) ⊎ Dotted l.base l.rest s;
}

abbrev pub decreases-loop-tail : goal.decreases-loop-tail
decreases-loop-tail l = length l.rest
