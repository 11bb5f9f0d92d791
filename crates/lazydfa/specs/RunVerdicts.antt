-- The verdict of a run over a line, by its stacks.
use Rattle.std.specs.Prelude.{◌≡◌, ℕ, ◌<◌, ◌≤◌, Bool, List, [], ◌∷◌, length, slice_get, Some}
use Rattle.flatgrammar.specs.Flat.{Flat, Dot, Concat}
use Rattle.flatgrammar.specs.declared.verdict.Verdict.{Verdict}
use Rattle.flatgrammar.specs.declared.verdict.Verdict.TheVariants.{Yes, No}
use Rattle.flatgrammar.specs.Stacks.{Reach, Accepts}

-- the augmented start is a concatenation of one
abbrev pub IsOne : Flat → Type 0
IsOne flat = (body : ℕ) × (slice_get flat.nodes flat.start ≡ Some (Concat (body ∷ [])))

module _ (flat : Flat) (last : Dot → Bool) (x : List ℕ) where
  -- j symbols lead to some stack
  abbrev pub IsReached : ℕ → Type 0
  IsReached j = (stack : List Dot) × Reach flat last x j stack

  -- n is the greatest number of symbols that lead to some stack; nothing is said of no symbols
  pub record IsLastReached (n : ℕ) : Type 0 where
    pub within : n ≤ length x
    pub reached : 0 < n → IsReached n
    pub last_is : (m : ℕ) → n < m → m ≤ length x → IsReached m → ⊥

  -- yes: the augmented start may end after the line; no: it may not, and n symbols are the most that lead to some stack
  abbrev pub IsRunVerdict : Verdict → Type 0
  IsRunVerdict Yes = Accepts flat last x (length x)
  IsRunVerdict (No n) = (Accepts flat last x (length x) → ⊥) × IsLastReached n
