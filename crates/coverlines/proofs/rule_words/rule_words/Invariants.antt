-- What is known gets shorter, or all rules are settled.
use Rattle.std.proofs.Common.{◌≡◌, ℕ, ◌+◌, ◌<◌, false, length, if◌then◌else◌}
use Rattle.abnfread.specs.AbnfViews.{rules_of}
use Rattle.coverlines.specs.KnownWords.{AreFound, IsSettled, total}
use Rattle.coverlines.proofs.rule_words.rule_words.Given as goal

abbrev pub invariant-loop-improved : goal.invariant-loop-improved
invariant-loop-improved l = record {
  found : AreFound l.bounds (rules_of l.rules) l.known.items;
  settled : l.improved ≡ false → (id : ℕ) → id < length (rules_of l.rules)
      → IsSettled l.bounds (rules_of l.rules) l.known.items id;
}

abbrev pub decreases-loop-improved : goal.decreases-loop-improved
decreases-loop-improved l = total l.bounds.limit l.known.items + total l.bounds.limit l.known.items
    + (if l.improved then 1 else 0)
