-- How a reader reports its end.
use Rattle.std.specs.Prelude.{Result, ◌≡◌, ℕ, ◌<◌, ◌⊎◌, Bool, true, List, length, MatchResult}

-- an answer of 0 into a buffer that is not empty sets the mark, and nothing else changes it
abbrev pub ReportsEnd : {E : Type 0} → Bool → Bool → List ℕ → Result ℕ E → Type 0
ReportsEnd old new buffer r = MatchResult r
    (λ n. (n ≡ 0 → 0 < length buffer → new ≡ true) × ((0 < n) ⊎ (length buffer ≡ 0) → new ≡ old)) (λ _. new ≡ old)
