-- The contexts get shorter, or all rules are settled.
use Rattle.std.proofs.Common.{◌≡◌, ℕ, ◌+◌, ◌<◌, false, length, if◌then◌else◌, Contains}
use Rattle.abnfread.specs.AbnfViews.{rules_of}
use Rattle.coverlines.specs.RuleContexts.{AreContexts, IsSettledAt, context_total, sites_at}
use Rattle.coverlines.specs.Sites.{Stood}
use Rattle.coverlines.proofs.rule_contexts.rule_contexts.Given as goal

abbrev pub invariant-loop-improved : goal.invariant-loop-improved
invariant-loop-improved l = record {
  contexts : AreContexts l.bounds (rules_of l.rules) l.judged l.known.items;
  settled : l.improved ≡ false → (id : ℕ) (s : Stood) → id < length l.sites → Contains (sites_at l.sites id) s
      → IsSettledAt l.bounds (rules_of l.rules) l.known.items id s;
}

abbrev pub decreases-loop-improved : goal.decreases-loop-improved
decreases-loop-improved l = context_total l.bounds.limit l.known.items + context_total l.bounds.limit l.known.items
    + (if l.improved then 1 else 0)
