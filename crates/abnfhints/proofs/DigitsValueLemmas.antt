-- The numbers of two texts of digits, by how many digits they have, and by the first in which they differ.
-- Serves: abnf_hints
use Rattle.std.proofs.Common.{◌≡◌, ◌≢◌, ℕ, zero, suc, ◌+◌, ◌*◌, ◌^◌, ◌<◌, ◌≤◌, ◌↔◌, List, [], ◌∷◌, length, get_or, refl}
use Rattle.std.proofs.Common.{sym, ap, ◌∙◌, arith, lt-ltb, nat_lt, mul-one, add-zero, ⊎_elim}
use Rattle.std.specs.Prelude.{IsTrue}
use Rattle.std.proofs.Math.Nat.{pow-suc, pow-zero, pow-le-pow_right}
use Rattle.std.proofs.lemmas.Bool.{cases_order, ltb-true}
use Rattle.std.proofs.lemmas.Bool.Decides.{nat_tests}
use Rattle.std.proofs.lemmas.Int.Digits.{digits_value-lt}
use Rattle.std.proofs.lemmas.Nat.{mul-le}
use Rattle.std.specs.Char.{digit_value}
use Rattle.std.specs.Str.Parse.{AllDigits, digits_value, digits_value_after}
use Rattle.lexer.specs.SliceEnds.{Lacks}

-- the digits of n before others
after-step : (n base d b v : ℕ) → (n * base + d) * b + v ≡ n * (b * base) + ((0 * base + d) * b + v)
after-step n base d b v = omega arith

after-split : (base n : ℕ) (ds : List ℕ) → digits_value_after base n ds ≡ n * base ^ length ds + digits_value base ds
after-split base n [] = simp (pow-zero, mul-one, add-zero)
after-split base n (c ∷ cs) =
    after-split base (n * base + digit_value c) cs
    ∙ after-step n base (digit_value c) (base ^ length cs) (digits_value base cs)
    ∙ ap (λ (k : ℕ). n * k + ((0 * base + digit_value c) * base ^ length cs + digits_value base cs))
    (sym (pow-suc base (length cs)))
    ∙ ap (λ (k : ℕ). n * base ^ suc (length cs) + k) (sym (after-split base (0 * base + digit_value c) cs))

-- what the first digit adds
value-first : (base c : ℕ) (cs : List ℕ)
    → digits_value base (c ∷ cs) ≡ digit_value c * base ^ length cs + digits_value base cs
value-first base c cs =
    after-split base (0 * base + digit_value c) cs
    ∙ ap (λ (k : ℕ). k * base ^ length cs + digits_value base cs) (omega arith)

pub value-zero : (base : ℕ) (cs : List ℕ) → digits_value base (48 ∷ cs) ≡ digits_value base cs
value-zero base cs = value-first base 48 cs ∙ omega arith

only-zero : (c : ℕ) → c ≢ 48 → 1 ≤ digit_value c
only-zero c ne = grind (arith, nat_tests)

-- more digits, of which the first is not `0`
pub more-digits : (base : ℕ) (xs ys : List ℕ) → 1 ≤ base → AllDigits base ys → Lacks 48 xs → length ys < length xs
    → digits_value base ys < digits_value base xs
more-digits base [] ys w d l lt = absurd (omega arith)
more-digits base (a ∷ xs) ys w d l lt =
    let top : base ^ length ys ≤ base ^ length xs = pow-le-pow_right w (omega arith) in
    let one : 1 * base ^ length xs ≤ digit_value a * base ^ length xs =
    mul-le 1 (base ^ length xs) (digit_value a) (base ^ length xs) (only-zero a l) (omega arith) in
    let less = digits_value-lt base ys d in
    let is = value-first base a xs in
    omega (arith, top, one, less, is)

pub other-lengths : (base : ℕ) (xs ys : List ℕ) → 1 ≤ base → AllDigits base xs → AllDigits base ys → Lacks 48 xs
    → Lacks 48 ys → length xs ≢ length ys
    → IsTrue (nat_lt (length ys) (length xs)) ↔ (digits_value base ys < digits_value base xs)
other-lengths base xs ys w d f k l ne = (
  (λ on. more-digits base xs ys w f k (ltb-true (length ys) (length xs) on)),
  (λ less. ⊎_elim (λ eq. absurd (ne (sym eq)))
      (λ ways. ⊎_elim (λ lt. lt-ltb (length ys) (length xs) lt)
      (λ lt. let more = more-digits base ys xs w d l lt in absurd (omega (arith, more, less))) ways)
      (cases_order (length ys) (length xs))),
)

-- as many digits
module _ (base : ℕ) where
  same-first : (a b : ℕ) (xs ys : List ℕ) → length xs ≡ length ys → digit_value a ≡ digit_value b
      → digits_value base ys < digits_value base xs → digits_value base (b ∷ ys) < digits_value base (a ∷ xs)
  same-first a b xs ys e d lt =
      let same : digit_value b * base ^ length ys ≡ digit_value a * base ^ length xs =
      ap (λ (k : ℕ). digit_value b * base ^ k) (sym e) ∙ ap (λ (k : ℕ). k * base ^ length xs) (sym d) in
      let first = value-first base a xs in
      let other = value-first base b ys in
      omega (arith, same, first, other, lt)

  other-first : (a b : ℕ) (xs ys : List ℕ) → length xs ≡ length ys → AllDigits base ys
      → digit_value b < digit_value a → digits_value base (b ∷ ys) < digits_value base (a ∷ xs)
  other-first a b xs ys e d lt =
      let less = digits_value-lt base ys d in
      let top : base ^ length ys ≡ base ^ length xs = ap (λ (k : ℕ). base ^ k) (sym e) in
      let most : (digit_value b + 1) * base ^ length xs ≤ digit_value a * base ^ length xs =
      mul-le (digit_value b + 1) (base ^ length xs) (digit_value a) (base ^ length xs) (omega arith) (omega arith) in
      let parts : (digit_value b + 1) * base ^ length xs ≡ digit_value b * base ^ length ys + base ^ length xs =
      ap (λ (k : ℕ). (digit_value b + 1) * k) (sym top) ∙ (let k = top in omega (arith, k)) in
      let first = value-first base a xs in
      let other = value-first base b ys in
      omega (arith, less, top, most, parts, first, other)

  -- the first digits in which they differ
  pub first-differ : (i : ℕ) (xs ys : List ℕ) → length xs ≡ length ys → i < length xs
      → ((k : ℕ) → k < i → digit_value (get_or xs k 0) ≡ digit_value (get_or ys k 0)) → AllDigits base ys
      → digit_value (get_or ys i 0) < digit_value (get_or xs i 0) → digits_value base ys < digits_value base xs
  first-differ i [] ys e l same d lt = absurd (omega arith)
  first-differ i (a ∷ xs) [] e l same d lt = absurd (omega arith)
  first-differ zero (a ∷ xs) (b ∷ ys) e l same d lt = other-first a b xs ys (omega arith) d.1 lt
  first-differ (suc i) (a ∷ xs) (b ∷ ys) e l same d lt =
      same-first a b xs ys (omega arith) (same 0 (omega arith))
      (first-differ i xs ys (omega arith) (omega arith) (λ k h. same (suc k) (omega arith)) d.1 lt)

  pub above-reported : (i x y : ℕ) (xs ys : List ℕ) → length xs ≡ length ys → i < length xs
      → ((k : ℕ) → k < i → digit_value (get_or xs k 0) ≡ digit_value (get_or ys k 0)) → AllDigits base xs
      → AllDigits base ys → x ≡ digit_value (get_or xs i 0) → y ≡ digit_value (get_or ys i 0) → x ≢ y
      → IsTrue (nat_lt y x) ↔ (digits_value base ys < digits_value base xs)
  above-reported i x y xs ys e l same d f is it ne = (
    (λ on. let lt = ltb-true y x on in
        first-differ i xs ys e l same f (omega (arith, lt, is, it))),
    (λ less. ⊎_elim (λ eq. absurd (ne (sym eq)))
        (λ ways. ⊎_elim (λ lt. lt-ltb y x lt)
        (λ lt. let more = first-differ i ys xs (sym e) (omega (arith, l, e)) (λ k h. sym (same k h)) d
        (omega (arith, lt, is, it)) in absurd (omega (arith, more, less))) ways)
        (cases_order y x)),
  )

  pub none-differ : (xs ys : List ℕ) → length xs ≡ length ys
      → ((k : ℕ) → k < length xs → digit_value (get_or xs k 0) ≡ digit_value (get_or ys k 0))
      → digits_value base xs ≡ digits_value base ys
  none-differ [] [] e same = refl
  none-differ [] (b ∷ ys) e same = absurd (omega arith)
  none-differ (a ∷ xs) [] e same = absurd (omega arith)
  none-differ (a ∷ xs) (b ∷ ys) e same =
      let rest = none-differ xs ys (omega arith) (λ k h. same (suc k) (omega arith)) in
      let one = same 0 (omega arith) in
      let parts : digit_value a * base ^ length xs ≡ digit_value b * base ^ length ys =
      ap (λ (k : ℕ). k * base ^ length xs) one ∙ ap (λ (k : ℕ). digit_value b * base ^ k) (omega arith) in
      let first = value-first base a xs in
      let other = value-first base b ys in
      omega (arith, rest, parts, first, other)
