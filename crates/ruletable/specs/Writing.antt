-- What is said of a writer: the text that it takes, and the flag that says whether it failed.
use Rattle.std.specs.Prelude.{Result, ◌≡◌, ℕ, ◌<◌, Bool, true, List, length, ◌++◌, MatchResult, Option}
use Rattle.std.specs.Io.KnownBytes.{Appends}

-- an `Err` sets the flag, and an `Ok` leaves it as it was
abbrev pub Flags : {A E : Type 0} → Bool → Bool → Result A E → Type 0
Flags old new r = MatchResult r (λ _. new ≡ old) (λ _. new ≡ true)

-- part stands at the front of whole
abbrev pub IsPrefixOf : List ℕ → List ℕ → Type 0
IsPrefixOf part whole = (rest : List ℕ) × (whole ≡ part ++ rest)

-- part stands at the front of whole, and is not all of it
abbrev pub IsProperPrefix : List ℕ → List ℕ → Type 0
IsProperPrefix part whole = IsPrefixOf part whole × (length part < length whole)

-- known bytes grow by a prefix of the text that is not all of it
abbrev pub AppendsPart : Option (List ℕ) → Option (List ℕ) → List ℕ → Type 0
AppendsPart old new text = (part : List ℕ) × IsProperPrefix part text × Appends old new part

-- known bytes grow by the text at an `Ok`, and by a prefix of it that is not all at an `Err`
abbrev pub Writes : {A E : Type 0} → Option (List ℕ) → Option (List ℕ) → List ℕ → Result A E → Type 0
Writes old new text r = MatchResult r (λ _. Appends old new text) (λ _. AppendsPart old new text)
