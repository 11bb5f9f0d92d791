use Rattle.std.proofs.Common.{◌≡◌, ◌-◌, ◌≤◌, List, length}
use Rattle.flatgrammar.specs.declared.closure.DottedRule.{DottedRule}
use Rattle.earley.specs.RowIndexes.{IsAfterIn}
use Rattle.earley.specs.RowItems.{Gains}
use Rattle.earley.proofs.row_step.complete_each.Given as goal

abbrev pub invariant-loop-from : goal.invariant-loop-from
invariant-loop-from l = record {
  count : length l.set.all ≡ length l.initial.set.all;
  within : l.from ≤ length l.sets;
  gains : (dots : List DottedRule) → Gains dots (IsAfterIn dots l.call l.sets l.row l.from) l.initial.set l.set;
}

abbrev pub decreases-loop-from : goal.decreases-loop-from
decreases-loop-from l = length l.sets - l.from
