-- Where a list of letters leads from a state to another.
-- Serves: derivation_is_decided, furthest_is_found, lower_viable
use Rattle.std.proofs.Common.{ℕ, List, [], ◌∷◌, ◌++◌}

-- `Goes i c k`: the letter c leads from i to k
module _ (Goes : ℕ → ℕ → ℕ → Type 0) where
  -- `IsPath i w j`: the letters of w lead from i to j
  pub data IsPath : ℕ → List ℕ → ℕ → Type 0 where
    here : {i : ℕ} → IsPath i [] i
    step : {i j k c : ℕ} {w : List ℕ} → Goes i c k → IsPath k w j → IsPath i (c ∷ w) j

  pub paths_join : {i j k : ℕ} {w v : List ℕ} → IsPath i w j → IsPath j v k → IsPath i (w ++ v) k
  paths_join here l = l
  paths_join (step is l) m = step is (paths_join l m)

  pub record Split (i : ℕ) (w v : List ℕ) (k : ℕ) : Type 0 where
    pub mid : ℕ
    pub left : IsPath i w mid
    pub right : IsPath mid v k

  pub path_splits : (w : List ℕ) {i k : ℕ} {v : List ℕ} → IsPath i (w ++ v) k → Split i w v k
  path_splits [] {i = i} l = record { mid = i; left = here; right = l }
  path_splits (c ∷ w) (step is l) = let h = path_splits w l in
      record { mid = h.mid; left = step is h.left; right = h.right }
