-- What repeats and numbers say.
use Prim.Native.Char.{code}
use Rattle.std.specs.Prelude.{◌≡◌, ℕ, ◌≤◌, List, [], ◌∷◌, ◌++◌, Option, Some, None, MatchOption}
use Rattle.std.specs.Str.Parse.{digits_value}
use Rattle.abnfread.specs.BaseDigits.{is_digit, NamesBase}
use Rattle.abnfread.specs.AbnfSlices.{Run, Digits}
use Rattle.abnfread.specs.AbnfWords.{Said, Values, Range}

-- the number after a star, if there is one
abbrev pub most : List ℕ → Option ℕ
most [] = None
most (b ∷ bs) = Some (digits_value 10 (b ∷ bs))

-- the slice of a repeat: a number alone is both the least and the most
pub data SaysRepeat : List ℕ → ℕ → Option ℕ → Type 0 where
  says_exactly : {t : List ℕ} → Digits 10 t [] → SaysRepeat t (digits_value 10 t) (Some (digits_value 10 t))
  says_between : {t ds es : List ℕ} → t ≡ ds ++ code "*" ∷ es → Run (is_digit 10) ds [] → Run (is_digit 10) es []
      → SaysRepeat t (digits_value 10 ds) (most es)

-- numbers with dots between
pub data Listed (base : ℕ) : List ℕ → List ℕ → Type 0 where
  last_number : {t : List ℕ} → Digits base t [] → Listed base t (digits_value base t ∷ [])
  more_numbers : {t ds r vs : List ℕ} → t ≡ ds ++ code "." ∷ r → Digits base ds [] → Listed base r vs
      → Listed base t (digits_value base ds ∷ vs)

-- the slice of a number
pub data SaysNum : List ℕ → Said → Type 0 where
  says_values : {base c : ℕ} {t vs : List ℕ} → NamesBase c base → Listed base t vs
      → SaysNum (code "%" ∷ c ∷ t) (Values vs)
  says_range : {base c : ℕ} {t ds es : List ℕ} → NamesBase c base → t ≡ ds ++ code "-" ∷ es → Digits base ds []
      → Digits base es [] → SaysNum (code "%" ∷ c ∷ t) (Range (digits_value base ds) (digits_value base es))

-- the greatest number of a repetition, and of a terminal value
abbrev pub max_number : ℕ
max_number = 4294967295

-- neither number of a repeat is over the limit
abbrev pub IsWithin : ℕ → ℕ → Option ℕ → Type 0
IsWithin limit a b = (a ≤ limit) × MatchOption b (Unit {0}) (λ n. n ≤ limit)
