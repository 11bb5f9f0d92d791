-- What a success prints.
use Rattle.std.specs.Prelude.{◌≡◌, ℕ, false, List, Option, None, Some}
use Rattle.gramcheck.specs.Grammar.{Grammar}
use Rattle.gramcheck.specs.Outcome.{Event, Fails, Takes}
use Rattle.pegmatch.specs.Answers.{StartGives}
use Rattle.pegmatch.specs.Text.{text_of}

-- the start rule fails at the front of the text; or it takes that many bytes
abbrev pub TakesUpTo : Grammar → List ℕ → Option ℕ → Type 0
TakesUpTo g text None = (looked : ℕ) × StartGives g text Fails looked
TakesUpTo g text (Some end) = (events : List Event) × (looked : ℕ) × StartGives g text (Takes end events) looked

-- the start rule fails at the front of the text; or its actions print that
abbrev pub IsPrinted : Grammar → List ℕ → Option (List ℕ) → Type 0
IsPrinted g text None = (looked : ℕ) × StartGives g text Fails looked
IsPrinted g text (Some printed) =
    (events : List Event) × (end looked : ℕ) × StartGives g text (Takes end events) looked
    × (printed ≡ text_of (record { raw = false; escapes = false }) text events)
