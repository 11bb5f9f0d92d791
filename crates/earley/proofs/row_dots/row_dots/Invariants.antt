use Rattle.earley.specs.RowItems.{AreDotsBelow}
use Rattle.earley.specs.RowSets.{HasSome}
use Rattle.earley.proofs.row_dots.row_dots.Given as goal

abbrev pub invariant-loop-position : goal.invariant-loop-position
invariant-loop-position l = AreDotsBelow l.dots (HasSome l.rows) l.position l.found.items
