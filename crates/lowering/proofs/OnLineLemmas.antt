-- How long is what lies in the line.
-- Serves: items_decide, lower, judge, lower_viable.
use Rattle.std.proofs.Common.{◌≡◌, ℕ, ◌+◌, ◌≤◌, List, length, arith}
use Rattle.abnfcheck.proofs.IsPathLemmas.{here, step}
use Rattle.abnfcheck.proofs.LiesLemmas.{Lies}
use Rattle.flatgrammar.proofs.SliceGetLemmas.{get_below}

module _ (x : List ℕ) where
  pub lies_count : {i j : ℕ} {w : List ℕ} → Lies x i w j → length w + i ≡ j
  lies_count here = omega arith
  lies_count (step is l) = let rest = lies_count l in omega (arith, rest, is.1)

  lies_most : {i j : ℕ} {w : List ℕ} → Lies x i w j → i ≤ length x → j ≤ length x
  lies_most here le = le
  lies_most (step {i = i} is l) le = lies_most l (let lt = get_below x i is.0 in omega (arith, lt, is.1))

  -- no longer than the line
  pub short_on_line : {i j : ℕ} {w : List ℕ} → Lies x i w j → length w ≤ length x
  short_on_line here = omega arith
  short_on_line (step {i = i} is l) =
      let lt = get_below x i is.0 in
      let most = lies_most l (omega (arith, lt, is.1)) in
      let count = lies_count l in
      omega (arith, most, count, is.1)
