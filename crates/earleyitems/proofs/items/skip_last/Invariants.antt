use Rattle.std.proofs.Common.{List, ◌≤◌}
use Rattle.flatgrammar.specs.declared.flat_item.Item.{Item}
use Rattle.earleyitems.specs.Waiting.{Chain, IsSkippedTo}
use Rattle.earleyitems.proofs.items.skip_last.Given as goal

abbrev pub invariant-loop-at : goal.invariant-loop-at
invariant-loop-at l = record {
  order : l.at ≤ l.first;
  skipped : (es : List Item) → Chain l.waiters l.first es → IsSkippedTo l.waiters l.at es l.list;
}

abbrev pub decreases-loop-at : goal.decreases-loop-at
decreases-loop-at l = l.at
