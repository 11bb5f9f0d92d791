-- What the slice of a number says.
-- Serves: read_abnf
use Rattle.std.proofs.Common.{◌≡◌, ℕ, ◌≤◌, ◌<◌, List, [], ◌∷◌, ◌++◌, refl, sym, ◌∙◌, ap, arith, All}
use Rattle.std.specs.Str.Parse.{digits_value}
use Rattle.lexer.specs.SliceEnds.{Lacks}
use Rattle.abnfread.specs.declared.number.TheConstants.{MAX_VALUE}
use Rattle.abnfread.specs.AbnfSays.{IsSmall}
use Rattle.abnfread.specs.AbnfSlices.{Run, Stops, Digits}
use Rattle.abnfread.specs.AbnfWords.{Said, Values, Range}
use Rattle.abnfread.specs.BaseDigits.{is_digit, NamesBase, binary, decimals, hexadecimal}
use Rattle.abnfread.specs.Numerals.{SaysNum, says_values, says_range, Listed}
use Rattle.abnfread.proofs.AbnfFirstLemmas.{reports-one}
use Rattle.abnfread.proofs.NumeralLemmas.{heads-equal, tails-equal, ends-range, listed-no_range}

pub reports-most : {c base : ℕ} → NamesBase c base → base ≤ 36
reports-most (binary e) = omega arith
reports-most (decimals e) = omega arith
reports-most (hexadecimal e) = omega arith

-- the letter of a number, and what follows it
pub letter-reported : {z after tail text : List ℕ} {c d base other : ℕ} → z ≡ 37 ∷ after → after ≡ c ∷ tail
    → NamesBase c base → z ≡ 37 ∷ d ∷ text → NamesBase d other → (base ≡ other) × (tail ≡ text)
letter-reported {z} {after} {tail} {text} {c} {d} e f t g u =
    let whole : 37 ∷ c ∷ tail ≡ 37 ∷ d ∷ text = ap (λ (x : List ℕ). 37 ∷ x) (sym f) ∙ sym e ∙ g in
    let letter : c ≡ d = heads-equal (tails-equal whole) in
    (reports-one t (rw (sym letter) at u), tails-equal (tails-equal whole))

no-dash : {rest es : List ℕ} → Lacks 45 rest → 45 ∷ es ≡ rest → ⊥
no-dash l e = let k = rw (sym e) at l in k refl

same-tails : {rest es fs : List ℕ} → 45 ∷ es ≡ rest → rest ≡ 45 ∷ fs → es ≡ fs
same-tails e h = tails-equal (e ∙ h)

-- a number's slice, cut
data NumCase (z : List ℕ) : Said → Type 0 where
  values_case : {base c : ℕ} {t vs : List ℕ} → z ≡ 37 ∷ c ∷ t → NamesBase c base → Listed base t vs
      → NumCase z (Values vs)
  range_case : {base c : ℕ} {t ds : List ℕ} (es : List ℕ) → z ≡ 37 ∷ c ∷ t → NamesBase c base → t ≡ ds ++ 45 ∷ es
      → Digits base ds [] → NumCase z (Range (digits_value base ds) (digits_value base es))

num-by : {z : List ℕ} {s : Said} → SaysNum z s → NumCase z s
num-by (says_values reports k) = values_case refl reports k
num-by (says_range reports e d f) = range_case _ refl reports e d

-- front are the first digits of a number, and rest follows them
module _ (base : ℕ) (z digits front rest : List ℕ) (reported : (b c : ℕ) (text : List ℕ) → z ≡ 37 ∷ c ∷ text
    → NamesBase c b
    → (base ≡ b) × (digits ≡ text)) (w : base ≤ 36)
    (cut : digits ≡ front ++ rest) (run : Run (is_digit base) front []) (stop : Stops (is_digit base) rest) where
  values-by : Lacks 45 rest → (s : Said) → NumCase z s → (vs : List ℕ) × (s ≡ Values vs) × Listed base digits vs
  values-by l s (values_case {base = b} {c} {t} {vs} q reports k) = let same = reported b c t q reports in
      (vs, refl, rw (sym same.0, sym same.1) at k)
  values-by l s (range_case {base = b} {c} {t} {ds} es q reports e d) =
      let same = reported b c t q reports in
      let ends = ends-range base digits ds es front rest w (same.1 ∙ e) (rw (sym same.0) at d) cut run stop in
      absurd (no-dash l ends.1)

  range-by : (after : List ℕ) → rest ≡ 45 ∷ after → (s : Said) → NumCase z s
      → s ≡ Range (digits_value base front) (digits_value base after)
  range-by after r s (values_case {base = b} {c} {t} {vs} q reports k) =
      let same = reported b c t q reports in
      absurd (listed-no_range base digits front after w (rw (sym same.0, sym same.1) at k)
      (cut ∙ ap (λ (x : List ℕ). front ++ x) r) run)
  range-by after r s (range_case {base = b} {c} {t} {ds} es q reports e d) =
      let same = reported b c t q reports in
      let ends = ends-range base digits ds es front rest w (same.1 ∙ e) (rw (sym same.0) at d) cut run stop in
      ap (λ (n : ℕ). Range (digits_value n ds) (digits_value n es)) (sym same.0)
      ∙ ap (λ (x : List ℕ). Range (digits_value base x) (digits_value base es)) ends.0
      ∙ ap (λ (x : List ℕ). Range (digits_value base front) (digits_value base x)) (same-tails ends.1 r)

  pub values-taken : Lacks 45 rest → (xs : List ℕ)
      → ((vs : List ℕ) → Listed base digits vs → (xs ≡ vs) × All (λ v. v ≤ MAX_VALUE) vs) → (s : Said) → SaysNum z s
      → (Values xs ≡ s) × IsSmall s
  values-taken l xs f s h = let v = values-by l s (num-by h) in let r = f v.0 v.2 in
      (ap Values r.0 ∙ sym v.1, rw (v.1) r.1)

  pub values-large : Lacks 45 rest → ((vs : List ℕ) → Listed base digits vs → All (λ v. v ≤ MAX_VALUE) vs → ⊥)
      → (s : Said) → SaysNum z s → IsSmall s → ⊥
  values-large l f s h small = let v = values-by l s (num-by h) in f v.0 v.2 (rw (v.1) at small)

  module _ (after : List ℕ) (r : rest ≡ 45 ∷ after) where
    pub range-taken : (low high : ℕ) → low ≡ digits_value base front → low ≤ MAX_VALUE → high ≡ digits_value base after
        → high ≤ MAX_VALUE → (s : Said) → SaysNum z s → (Range low high ≡ s) × IsSmall s
    range-taken low high a b c d s h =
        let e = ap (λ (n : ℕ). Range n high) a ∙ ap (λ (n : ℕ). Range (digits_value base front) n) c
        ∙ sym (range-by after r s (num-by h)) in
        (e, rw (sym e) (b, d))

    pub low-large : MAX_VALUE < digits_value base front → (s : Said) → SaysNum z s → IsSmall s → ⊥
    low-large l s h small = let k = (rw (range-by after r s (num-by h)) at small) in let v = k.0 in
        absurd (omega arith)

    pub high-large : MAX_VALUE < digits_value base after → (s : Said) → SaysNum z s → IsSmall s → ⊥
    high-large l s h small = let k = (rw (range-by after r s (num-by h)) at small) in let v = k.1 in
        absurd (omega arith)
