-- Where a text defines rules and mentions them, if explanations are asked for.
use Rattle.std.specs.Prelude.{◌≡◌, ℕ, Bool, true, false, List, Option, MatchOption}

-- the positions are there exactly if explanations are asked for, and are those of the text
abbrev pub AreAsked : {P : Type 0} → (List ℕ → P → Type 0) → Bool → List ℕ → Option P → Type 0
AreAsked Are explain text found = MatchOption found (explain ≡ false) (λ p. (explain ≡ true) × Are text p)
