-- Numbers over their limit are runs of digits that are.
-- Serves: explain_fault
use Rattle.std.proofs.Common.{◌≡◌, ℕ, suc, ◌+◌, ◌*◌, ◌<◌, ◌≤◌, ◌||◌, nat_lt, Bool, true, false, Option, Some}
use Rattle.std.proofs.Common.{None, List, []}
use Rattle.std.proofs.Common.{◌∷◌, ◌++◌, refl, sym, ap, ◌∙◌, arith, append-nil, All, MatchBool, inl, inr}
use Rattle.std.proofs.lemmas.Bool.{cases_lt}
use Rattle.std.proofs.lemmas.List.Elements.{All-cons, All-nil}
use Rattle.std.proofs.lemmas.Bool.Decides.{nat_tests}
use Rattle.std.specs.Char.{digit_value}
use Rattle.std.specs.Str.Parse.{digits_value, digits_value_after}
use Rattle.abnfread.specs.declared.number.TheConstants.{MAX_VALUE, MAX_REPEAT}
use Rattle.abnfread.specs.AbnfSays.{IsSmall}
use Rattle.abnfread.specs.AbnfSlices.{Run, none, more}
use Rattle.abnfread.specs.AbnfWords as words
use Rattle.abnfread.specs.BaseDigits.{is_digit, NamesBase, binary, decimals, hexadecimal}
use Rattle.abnfread.specs.Numerals.{SaysRepeat, says_exactly, says_between, most, Listed, last_number, more_numbers}
use Rattle.abnfread.specs.Numerals.{SaysNum, says_values, says_range, IsWithin}
use Rattle.abnfread.proofs.ByteRunLemmas.{no-digit}
use Rattle.abnfread.proofs.NumeralLemmas.{after-ge, digits-run}
use Rattle.abnfread.proofs.SaysNumLemmas.{reports-most}
use Rattle.abnfexplain.specs.LargeRuns.{runs_over, base_reported, over_after}

reports-least : {c base : ℕ} → NamesBase c base → 2 ≤ base
reports-least (binary e) = omega arith
reports-least (decimals e) = omega arith
reports-least (hexadecimal e) = omega arith

lt-test : (a b : ℕ) → a < b → nat_lt a b ≡ true
lt-test a b h = grind (arith, nat_tests)

ge-test : (a b : ℕ) → b ≤ a → nat_lt a b ≡ false
ge-test a b h = grind (arith, nat_tests)

-- what stands after a run of digits: nothing, or no digit
abbrev EndsRun : ℕ → List ℕ → Type 0
EndsRun base [] = Unit {0}
EndsRun base (c ∷ r) = is_digit base c ≡ false

abbrev over_rest : ℕ → List ℕ → Bool
over_rest base [] = false
over_rest base (c ∷ r) = runs_over base 0 r

rest-over : (base n : ℕ) (rest : List ℕ) → EndsRun base rest → runs_over base n rest ≡ over_rest base rest
rest-over base n [] e = refl
rest-over base n (c ∷ r) e = rw e refl

digit-over : (base n b : ℕ) (t : List ℕ) → is_digit base b ≡ true → runs_over base n (b ∷ t)
    ≡ (nat_lt MAX_VALUE (n * base + digit_value b) || runs_over base (n * base + digit_value b) t)
digit-over base n b t e = rw e refl

-- a run of digits, and what stands after it
run-over : (base n : ℕ) {ds : List ℕ} (rest : List ℕ) → 2 ≤ base → n ≤ MAX_VALUE → Run (is_digit base) ds []
    → EndsRun base rest → runs_over base n (ds ++ rest) ≡ (nat_lt MAX_VALUE (digits_value_after base n ds)
    || over_rest base rest)
run-over base n rest w le none ends =
    let small = ge-test MAX_VALUE n le in
    rw small (rest-over base n rest ends)
run-over base n rest w le (more {b} {bs} e h) ends = elim (cases_lt MAX_VALUE (n * base + digit_value b)) [
  | inl lt ↦
      (let over = lt-test MAX_VALUE (n * base + digit_value b) lt in
      let ge = after-ge base (n * base + digit_value b) bs w in
      let all = lt-test MAX_VALUE (digits_value_after base (n * base + digit_value b) bs) (omega arith) in
      digit-over base n b (bs ++ rest) e ∙ rw (over, all) refl)
  | inr ge ↦
      (let small = ge-test MAX_VALUE (n * base + digit_value b) ge in
      digit-over base n b (bs ++ rest) e ∙ rw small (run-over base (n * base + digit_value b) rest w ge h ends))
]

whole-over : (base : ℕ) (ds : List ℕ) → 2 ≤ base → Run (is_digit base) ds [] → runs_over base 0 ds
    ≡ (nat_lt MAX_VALUE (digits_value base ds) || false)
whole-over base ds w h = ap (runs_over base 0) (sym (append-nil ds)) ∙ run-over base 0 [] w (omega arith) h tt

part-over : (base c : ℕ) (ds es : List ℕ) → 2 ≤ base → Run (is_digit base) ds [] → is_digit base c ≡ false
    → runs_over base 0 (ds ++ c ∷ es) ≡ (nat_lt MAX_VALUE (digits_value base ds) || runs_over base 0 es)
part-over base c ds es w h e = run-over base 0 (c ∷ es) w (omega arith) h e

-- the test says whether it is within
abbrev pub Tests : Bool → Type 0 → Type 0
Tests b Within = MatchBool b (Within → ⊥) Within

one-tests : (v : ℕ) (P : Type 0) → (v ≤ MAX_VALUE → P) → (P → v ≤ MAX_VALUE) → (b : Bool) → nat_lt MAX_VALUE v ≡ b
    → Tests b P
one-tests v P f g true e = λ p. (let small = ge-test MAX_VALUE v (g p) in let no : true ≡ false = sym e ∙ small in cc)
one-tests v P f g false e = f (elim (cases_lt MAX_VALUE v) [
  | inl lt ↦ absurd (let large = lt-test MAX_VALUE v lt in let no : true ≡ false = sym large ∙ e in cc)
  | inr le ↦ le
])

-- of two parts
two-tests : (v : ℕ) (P Q : Type 0) (c : Bool) → (v ≤ MAX_VALUE → Q → P) → (P → v ≤ MAX_VALUE) → (P → Q) → Tests c Q
    → (b : Bool) → nat_lt MAX_VALUE v ≡ b → Tests (b || c) P
two-tests v P Q c f g h q true e = λ p. (let small = ge-test MAX_VALUE v (g p) in
    let no : true ≡ false = sym e ∙ small in cc)
two-tests v P Q true f g h q false e = λ p. q (h p)
two-tests v P Q false f g h q false e = one-tests v P (λ le. f le q) g false e

or-false : (b : Bool) → (b || false) ≡ b
or-false true = refl
or-false false = refl

by-value : (v : ℕ) (P : Type 0) → (v ≤ MAX_VALUE → P) → (P → v ≤ MAX_VALUE) → Tests (nat_lt MAX_VALUE v || false) P
by-value v P f g = rw (or-false (nat_lt MAX_VALUE v)) (one-tests v P f g (nat_lt MAX_VALUE v) refl)

abbrev IsMost : Option ℕ → Type 0
IsMost None = Unit {0}
IsMost (Some n) = n ≤ MAX_VALUE

most-tests : (es : List ℕ) → Run (is_digit 10) es [] → Tests (runs_over 10 0 es) (IsMost (most es))
most-tests [] h = tt
most-tests (b ∷ bs) h = rw (whole-over 10 (b ∷ bs) (omega arith) h)
    (by-value (digits_value 10 (b ∷ bs)) (digits_value 10 (b ∷ bs) ≤ MAX_VALUE) (λ le. le) (λ le. le))

most-within : (a : ℕ) (o : Option ℕ) → a ≤ MAX_VALUE → IsMost o → IsWithin MAX_REPEAT a o
most-within a None le m = (le, tt)
most-within a (Some n) le m = (le, m)

within-most : (a : ℕ) (o : Option ℕ) → IsWithin MAX_REPEAT a o → IsMost o
within-most a None h = tt
within-most a (Some n) h = h.1

pub repeat-tests : (z : List ℕ) (a : ℕ) (b : Option ℕ) → SaysRepeat z a b
    → Tests (runs_over 10 0 z) (IsWithin MAX_REPEAT a b)
repeat-tests z a b (says_exactly h) = rw (whole-over 10 z (omega arith) (digits-run h))
    (by-value (digits_value 10 z) (IsWithin MAX_REPEAT (digits_value 10 z) (Some (digits_value 10 z)))
    (λ le. (le, le)) (λ w. w.0))
repeat-tests z a b (says_between {ds} {es} e h k) =
    let parts = part-over 10 42 ds es (omega arith) h (no-digit 10 42 36 refl (omega arith)) in
    rw (e, parts)
    (two-tests (digits_value 10 ds) (IsWithin MAX_REPEAT (digits_value 10 ds) (most es)) (IsMost (most es))
    (runs_over 10 0 es) (most-within (digits_value 10 ds) (most es)) (λ w. w.0)
    (within-most (digits_value 10 ds) (most es)) (most-tests es k) (nat_lt MAX_VALUE (digits_value 10 ds)) refl)

All-first : (v : ℕ) (vs : List ℕ) → All (λ n. n ≤ MAX_VALUE) (v ∷ vs) → v ≤ MAX_VALUE
All-first v vs h = h 0 0 (omega arith)

All-rest : (v : ℕ) (vs : List ℕ) → All (λ n. n ≤ MAX_VALUE) (v ∷ vs) → All (λ n. n ≤ MAX_VALUE) vs
All-rest v vs h = λ k d lt. h (suc k) d (omega arith)

listed-tests : (base : ℕ) {t vs : List ℕ} → 2 ≤ base → base ≤ 36 → Listed base t vs
    → Tests (runs_over base 0 t) (All (λ n. n ≤ MAX_VALUE) vs)
listed-tests base w le (last_number {t} h) = rw (whole-over base t w (digits-run h))
    (by-value (digits_value base t) (All (λ n. n ≤ MAX_VALUE) (digits_value base t ∷ []))
    (λ small. All-cons (λ n. n ≤ MAX_VALUE) (digits_value base t) [] small (All-nil (λ n. n ≤ MAX_VALUE)))
    (All-first (digits_value base t) []))
listed-tests base w le (more_numbers {t} {ds} {r} {vs} e h hs) =
    let parts = part-over base 46 ds r w (digits-run h) (no-digit base 46 36 refl le) in
    rw (e, parts)
    (two-tests (digits_value base ds) (All (λ n. n ≤ MAX_VALUE) (digits_value base ds ∷ vs))
    (All (λ n. n ≤ MAX_VALUE) vs) (runs_over base 0 r)
    (λ small all. All-cons (λ n. n ≤ MAX_VALUE) (digits_value base ds) vs small all)
    (All-first (digits_value base ds) vs) (All-rest (digits_value base ds) vs) (listed-tests base w le hs)
    (nat_lt MAX_VALUE (digits_value base ds)) refl)

reported-base : {c base : ℕ} → NamesBase c base → base_reported c ≡ base
reported-base {c} (binary e) = rw e refl
reported-base {c} (decimals e) = grind (arith, nat_tests)
reported-base {c} (hexadecimal e) = grind (arith, nat_tests)

pub num-tests : (z : List ℕ) (s : words.Said) → SaysNum z s → Tests (over_after z) (IsSmall s)
num-tests z s (says_values {base} {c} {t} {vs} reports h) =
    let reported = reported-base reports in
    rw reported (listed-tests base (reports-least reports) (reports-most reports) h)
num-tests z s (says_range {base} {c} {t} {ds} {es} reports e h k) =
    let reported = reported-base reports in
    let w = reports-least reports in
    let parts = part-over base 45 ds es w (digits-run h) (no-digit base 45 36 refl (reports-most reports)) in
    let whole = whole-over base es w (digits-run k) in
    rw (reported, e, parts, whole)
    (two-tests (digits_value base ds)
    ((digits_value base ds ≤ MAX_VALUE) × (digits_value base es ≤ MAX_VALUE)) (digits_value base es ≤ MAX_VALUE)
    (nat_lt MAX_VALUE (digits_value base es) || false) (λ a b. (a, b)) (λ p. p.0) (λ p. p.1)
    (by-value (digits_value base es) (digits_value base es ≤ MAX_VALUE) (λ le. le) (λ le. le))
    (nat_lt MAX_VALUE (digits_value base ds)) refl)
