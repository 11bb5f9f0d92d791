-- The digits that a canonical text writes, and that they say the number.
-- Serves: print_abnf, is_abnf_read_back
use Rattle.std.proofs.Common.{◌≡◌, ◌≢◌, ℕ, suc, ◌/◌, ◌%◌, ◌^◌, ◌<◌, ◌≤◌, nat_lt, cond, Bool, true, false, Some, None}
use Rattle.std.proofs.Common.{List, [], ◌∷◌, ◌++◌, length, map, refl, sym, ap, ◌∙◌, arith, inl, inr, decimal}
use Rattle.std.proofs.Common.{append_assoc}
use Rattle.std.proofs.lemmas.Bool.Decides.{nat_tests, eqb_tells}
use Rattle.std.proofs.lemmas.Bool.{lt-ltb, ltb-true, ltb-false, le-ltb}
use Rattle.std.proofs.lemmas.List.{map-append}
use Rattle.std.proofs.lemmas.Fmt.{decimal_is_IsNumeral}
use Rattle.std.proofs.lemmas.Int.Digits.{number_digits_of, digits_value_is, all_below_base_digits_of, digits_of_step}
use Rattle.std.proofs.lemmas.Int.Digits.{length-digits_of_step}
use Rattle.std.specs.Char.{digit_value}
use Rattle.std.specs.Fmt.{digit_glyph}
use Rattle.std.specs.Int.Digits.{digits_of, number_from_digits, AllBelowBase}
use Rattle.std.specs.Str.Parse.{digits_value, AllDigits}
use Rattle.abnfread.specs.AbnfSlices.{Run, none, more, Digits, digits}
use Rattle.abnfread.specs.BaseDigits.{is_digit}
use Rattle.abnfprint.specs.CanonicalAbnf.{upper_digits, hexadecimal, least_text, repeat_text}

-- digits that say the number
pub record Numeral (base : ℕ) (t : List ℕ) (n : ℕ) : Type 0 where
  pub are_digits : Digits base t []
  pub value : digits_value base t ≡ n

digits-run : (base : ℕ) (t : List ℕ) → AllDigits base t → Run (is_digit base) t []
digits-run base [] h = none
digits-run base (c ∷ cs) h = more (lt-ltb (digit_value c) base h.0) (digits-run base cs h.1)

pub digits-numeral : (base : ℕ) (t : List ℕ) (n : ℕ) → 0 < length t → AllDigits base t → digits_value base t ≡ n
    → Numeral base t n
digits-numeral base [] n le h e = absurd (omega arith)
digits-numeral base (c ∷ cs) n le h e = record {
  are_digits = digits (lt-ltb (digit_value c) base h.0) (digits-run base cs
      h.1);
  value = e;
}

pub decimal-numeral : (n : ℕ) → n < 2 ^ 64 → Numeral 10 (decimal n) n
decimal-numeral n h = let d = decimal_is_IsNumeral n h in digits-numeral 10 (decimal n) n d.0.0 d.0.1 d.1

-- the digit of a number below 16
glyph-value : (d : ℕ) → d < 16 → digit_value (digit_glyph true d) ≡ d
glyph-value d h = grind (arith, nat_tests)

glyphs-values : (ds : List ℕ) → AllBelowBase 16 ds → map digit_value (map (λ d. digit_glyph true d) ds) ≡ ds
glyphs-values [] h = refl
glyphs-values (d ∷ ds) h = rw (glyph-value d h.0, glyphs-values ds h.1) refl

glyphs-digits : (ds : List ℕ) → AllBelowBase 16 ds → AllDigits 16 (map (λ d. digit_glyph true d) ds)
glyphs-digits [] h = tt
glyphs-digits (d ∷ ds) h = (let e = glyph-value d h.0 in let k = h.0 in omega arith, glyphs-digits ds h.1)

upper-value : (v : ℕ) → digits_value 16 (upper_digits v) ≡ v
upper-value v =
    let below = all_below_base_digits_of 16 v (omega arith) in
    digits_value_is 16 (upper_digits v) ∙ ap (number_from_digits 16) (glyphs-values (digits_of 16 v) below)
    ∙ number_digits_of 16 v (omega arith)

glyphs-length : (ds : List ℕ) → length (map (λ d. digit_glyph true d) ds) ≡ length ds
glyphs-length [] = refl
glyphs-length (d ∷ ds) = ap (λ (k : ℕ). suc k) (glyphs-length ds)

upper-numeral : (v : ℕ) → 0 < v → Numeral 16 (upper_digits v) v
upper-numeral v h = digits-numeral 16 (upper_digits v) v
    (omega (arith, glyphs-length (digits_of 16 v), length-digits_of_step 16 v (omega arith) h))
    (glyphs-digits (digits_of 16 v) (all_below_base_digits_of 16 v (omega arith))) (upper-value v)

two-numeral : (v : ℕ) → v < 16 → Numeral 16 (48 ∷ digit_glyph true v ∷ []) v
two-numeral v h =
    let e = glyph-value v h in
    digits-numeral 16 (48 ∷ digit_glyph true v ∷ []) v (omega arith) (omega arith, (omega arith, tt)) (omega arith)

pub hexadecimal-numeral : (v : ℕ) → Numeral 16 (hexadecimal v) v
hexadecimal-numeral v = by (nat_lt v 16) refl
  where
    by : (b : Bool) → nat_lt v 16 ≡ b → Numeral 16 (cond b (48 ∷ digit_glyph true v ∷ []) (upper_digits v)) v
    by true e = two-numeral v (ltb-true v 16 e)
    by false e = upper-numeral v (let l = ltb-false v 16 e in omega arith)

-- its last digit
pub upper-more : (v : ℕ) → 0 < v → upper_digits v ≡ upper_digits (v / 16) ++ digit_glyph true (v % 16) ∷ []
upper-more v h = ap (λ (ds : List ℕ). map (λ d. digit_glyph true d) ds) (digits_of_step 16 v (omega arith) h)
    ∙ map-append (λ d. digit_glyph true d) (digits_of 16 (v / 16)) (v % 16 ∷ [])

pub upper-one : (v : ℕ) → 0 < v → v < 16 → upper_digits v ≡ digit_glyph true v ∷ []
upper-one v h l =
    let high : v / 16 ≡ 0 = omega arith in
    let low : v % 16 ≡ v = omega arith in
    upper-more v h ∙ rw (high, low) refl

pub hexadecimal-two : (v : ℕ) → v < 16 → hexadecimal v ≡ 48 ∷ digit_glyph true v ∷ []
hexadecimal-two v h = let e = lt-ltb v 16 h in rw e refl

pub hexadecimal-more : (v : ℕ) → 16 ≤ v → hexadecimal v ≡ upper_digits v
hexadecimal-more v h = let e = le-ltb v 16 h in rw e refl

-- the numbers on both sides of the star
pub repeat-bounds : (a b : ℕ) → a ≢ b → repeat_text a (Some b) ≡ repeat_text a None ++ decimal b
repeat-bounds a b n = elim (eqb_tells a b) [
  | inl h ↦ absurd (n h.1)
  | inr h ↦ (let e = h.0 in rw e (sym (append_assoc (least_text a) (42 ∷ []) (decimal b))))
]
