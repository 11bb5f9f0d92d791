-- The contexts so far.
use Rattle.std.proofs.Common.{◌≡◌, ℕ, ◌<◌, length}
use Rattle.coverlines.specs.RuleContexts.{IsFirstContext, context_at}
use Rattle.coverlines.proofs.rule_contexts.first_contexts.Given as goal

abbrev pub invariant-loop-id : goal.invariant-loop-id
invariant-loop-id l = record {
  count : length l.known.items ≡ l.id;
  each : (k : ℕ) → k < l.id → IsFirstContext l.judged k (context_at l.known.items k);
}
