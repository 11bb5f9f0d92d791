use Rattle.std.proofs.Common.{◌≡◌, ℕ, Some, length, slice_get}
use Rattle.flatgrammar.specs.declared.closure.DottedRule.{DottedRule}
use Rattle.earley.specs.DotTables.{IsStep}
use Rattle.earley.specs.declared.dot_table.DottedActions.{DottedActions}
use Rattle.earley.proofs.dot_table.all_steps.Given as goal

abbrev pub invariant-loop-at : goal.invariant-loop-at
invariant-loop-at l = record {
  count : length l.steps.items ≡ l.at-index;
  each : (p : ℕ) (at : DottedRule) (s : DottedActions) → slice_get l.numbers.dots.items p ≡ Some at
      → slice_get l.steps.items p ≡ Some s
      → IsStep l.flat l.numbers.dots.items at s;
}
