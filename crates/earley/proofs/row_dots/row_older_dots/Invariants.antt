use Rattle.earley.specs.RowItems.{AreDotsBelow}
use Rattle.earley.specs.RowSets.{HasOlder}
use Rattle.earley.proofs.row_dots.row_older_dots.Given as goal

abbrev pub invariant-loop-position : goal.invariant-loop-position
invariant-loop-position l = AreDotsBelow l.dots (HasOlder l.rows l.n) l.position l.found.items
