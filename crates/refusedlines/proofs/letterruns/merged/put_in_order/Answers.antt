use Rattle.std.proofs.Common.{rules}
use Rattle.std.proofs.lemmas.List.Sorted.{IsNonDecreasingBy-from_sort_by_key, IsPermutation-sym}
use Rattle.refusedlines.proofs.LetterRunLemmas.{permutation_has}
use Rattle.refusedlines.proofs.letterruns.merged.put_in_order.Goals as goal

pub returns-clause-ordered : goal.returns-clause-ordered
returns-clause-ordered c =
    IsNonDecreasingBy-from_sort_by_key (λ r. r.first) _ c.sort_unstable_by_key.ensures.sorted (λ a r q k. search rules)

pub returns-clause-same : goal.returns-clause-same
returns-clause-same c d = (
  permutation_has _ _ (IsPermutation-sym _ _ c.sort_unstable_by_key.ensures.permutation) d,
  permutation_has _ _ c.sort_unstable_by_key.ensures.permutation d,
)
