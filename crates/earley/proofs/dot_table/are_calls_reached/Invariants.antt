use Rattle.std.proofs.Common.{◌≡◌, ℕ, ◌<◌, Some, slice_get}
use Rattle.earley.specs.DotTables.{IsReached}
use Rattle.earley.specs.declared.dot_table.Called.{Called}
use Rattle.earley.specs.declared.dot_table.DottedActions.{DottedActions}
use Rattle.earley.proofs.dot_table.are_calls_reached.Given as goal

abbrev pub invariant-loop-i : goal.invariant-loop-i
invariant-loop-i l = (p : ℕ) (s : DottedActions) (c : Called) → p < l.i → slice_get l.steps p ≡ Some s
    → s.called ≡ Some c
    → IsReached l.targets c.target
