-- Nothing is pending, and the queue is empty.
use Rattle.earley.proofs.RowSetsLemmas.{queued_none}
use Rattle.earley.proofs.row_set.RowSet.new.Goals as goal

pub invariant_of-result : goal.invariant_of-result
invariant_of-result c =
    queued_none c.args.positions c.in_ok-rows.rows.items c.in_ok-pending.pending.items c.new.result.items
    c.in_ok-rows.ensures c.in_ok-pending.ensures c.new.ensures.items
