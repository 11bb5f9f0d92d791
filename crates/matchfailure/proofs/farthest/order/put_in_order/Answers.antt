use Rattle.std.proofs.lemmas.List.Filters.{dedup_is}
use Rattle.matchfailure.proofs.VisitOrderLemmas.{same_eval, sorted_ascends, sorted_lists, sorted_back}
use Rattle.matchfailure.proofs.farthest.order.put_in_order.Goals as goal

pub returns-clause-ordered : goal.returns-clause-ordered
returns-clause-ordered c = rw (dedup_is same_eval _ _ c.dedup.ensures.filtered)
    (sorted_ascends _ c.sort_unstable.ensures.sorted)

pub returns-clause-same : goal.returns-clause-same
returns-clause-same c v = rw (dedup_is same_eval _ _ c.dedup.ensures.filtered) (
  sorted_back _ _ c.sort_unstable.ensures.permutation v,
  sorted_lists _ _ c.sort_unstable.ensures.permutation v,
)
