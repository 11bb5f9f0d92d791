-- The greatest number of a repetition, if it is within the limit.
-- Serves: items_decide, lower, judge, lower_viable.
use Rattle.std.proofs.Common.{◌≡◌, ℕ, suc, ◌<◌, ◌≤◌, Bool, true, false, leb, Option, Some, None, if◌then◌else◌, sym}
use Rattle.std.proofs.Common.{refl, arith, ◌⊎◌, inl, inr, le-leb}
use Rattle.std.proofs.lemmas.Bool.{cases_lt}
use Rattle.abnfcheck.specs.Derivable.{AtMost}
use Rattle.lowering.specs.Lowered.{capped_most}

above_limit : (limit m : ℕ) → leb m limit ≡ false → limit < m
above_limit limit m unmet = by (cases_lt limit m)
  where
    by : (limit < m) ⊎ (m ≤ limit) → limit < m
    by (inl lt) = lt
    by (inr le) = let met = le-leb m limit le in absurd (cc (met, unmet))

module _ (limit : ℕ) where
  pub most_is : (b : Option ℕ) (n : ℕ) → Some n ≡ capped_most limit b → b ≡ Some n
  most_is None n is = absurd (cc is)
  most_is (Some m) n is = by (leb m limit) is
    where
      by : (c : Bool) → Some n ≡ (if c then Some m else None) → Some m ≡ Some n
      by true is = sym is
      by false is = absurd (cc is)

  -- one more iteration than the limit is within a bound that is above it
  pub free_within : (j : ℕ) (b : Option ℕ) → None ≡ capped_most limit b → j ≤ limit → AtMost (suc j) b
  free_within j None is le = tt
  free_within j (Some m) is le = by (leb m limit) refl is
    where
      by : (c : Bool) → leb m limit ≡ c → None ≡ (if c then Some m else None) → suc j ≤ m
      by true met is = absurd (cc is)
      by false unmet is = let lt = above_limit limit m unmet in omega (arith, lt, le)

  pub counted_within : (j k n : ℕ) (b : Option ℕ) → Some n ≡ capped_most limit b → k < n → k ≡ j → AtMost (suc j) b
  counted_within j k n None is lt same = tt
  counted_within j k n (Some m) is lt same = let one : Some m ≡ Some n = most_is (Some m) n is in let there : m ≡ n =
      cc one in omega (arith, there, lt, same)
