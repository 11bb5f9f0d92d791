-- How far the forms of a text's first byte reach, and which of them is the longest.
-- Serves: next_char, literal_bytes, class_set, spells_one_char, spells_some_char, one_tree, read_peg
use Rattle.std.proofs.Common.{◌≡◌, ◌≢◌, ℕ, ◌+◌, ◌*◌, ◌-◌, ◌<◌, ◌≤◌, List, [], ◌∷◌, length, refl, subst, arith, ◌⊎◌, inl}
use Rattle.std.proofs.Common.{inr}
use Rattle.std.proofs.lemmas.Bool.{cases_lt}
use Rattle.pegread.specs.Chars.{Octal, octal_digit, Hex, hex_digit, hex_upper, hex_lower, DigitFirst, digit_first}
use Rattle.pegread.specs.Chars.{NoDigit, Letter, letter_a, letter_b, letter_e, letter_f, letter_n, letter_r, letter_t}
use Rattle.pegread.specs.Chars.{letter_v, Form, unescaped, letter, octal_three, octal_two, octal_one, hex_two, hex_one}
use Rattle.pegread.specs.Chars.{itself, Char}

pub octal-is : {x k : ℕ} → Octal x k → (x ≡ 48 + k) × (k ≤ 7)
octal-is (octal_digit h) = (refl, h)

pub octal-here : (x k : ℕ) → x ≡ 48 + k → k ≤ 7 → Octal x k
octal-here x k e h = rw e (octal_digit h)

pub octal-same : {x k m : ℕ} → Octal x k → Octal x m → k ≡ m
octal-same h k = let a = octal-is h in let b = octal-is k in omega arith

pub no-octal : (x : ℕ) → (x < 48) ⊎ (55 < x) → (k : ℕ) → Octal x k → ⊥
no-octal x (inl h) k o = let a = octal-is o in omega arith
no-octal x (inr h) k o = let a = octal-is o in omega arith

-- a hexadecimal digit's value, by where the digit stands in ASCII
pub record HexValue (x n : ℕ) : Type 0 where
  pub in_order : (48 ≤ x) × (x ≤ 102)
  pub gap_below_upper : x ≤ 57 ⊎ 65 ≤ x
  pub gap_below_lower : x ≤ 70 ⊎ 97 ≤ x
  pub of_digit : x ≤ 57 → x ≡ 48 + n
  pub of_upper : 58 ≤ x → x ≤ 70 → x ≡ 55 + n
  pub of_lower : 71 ≤ x → x ≡ 87 + n

pub hex-is : {x n : ℕ} → Hex x n → HexValue x n
hex-is (hex_digit h) = record {
  in_order = (omega arith, omega arith);
  gap_below_upper = inl (omega arith);
  gap_below_lower = inl (omega arith);
  of_digit = λ _. refl;
  of_upper = λ a b. absurd (omega arith);
  of_lower =
      λ a. absurd (omega arith);
}
hex-is (hex_upper h) = record {
  in_order = (omega arith, omega arith);
  gap_below_upper = inr (omega arith);
  gap_below_lower = inl (omega arith);
  of_digit = λ a. absurd (omega arith);
  of_upper = λ a b. omega arith;
  of_lower =
      λ a. absurd (omega arith);
}
hex-is (hex_lower h) = record {
  in_order = (omega arith, omega arith);
  gap_below_upper = inr (omega arith);
  gap_below_lower = inr (omega arith);
  of_digit = λ a. absurd (omega arith);
  of_upper = λ a b. absurd (omega arith);
  of_lower = λ a. omega arith;
}

one-value : (x m n : ℕ) → HexValue x m → HexValue x n → m ≡ n
one-value x m n a b = elim (cases_lt x 58) [
  | inl d ↦ (let p = a.of_digit (omega arith) in let q = b.of_digit (omega arith) in omega arith)
  | inr u ↦ elim (cases_lt x 71) [
    | inl v ↦ (let p = a.of_upper u (omega arith) in let q = b.of_upper u (omega arith) in omega arith)
    | inr l ↦ (let p = a.of_lower l in let q = b.of_lower l in omega arith)
  ]
]

pub hex-same : {x m n : ℕ} → Hex x m → Hex x n → m ≡ n
hex-same {x} {m} {n} h k = one-value x m n (hex-is h) (hex-is k)

pub hex-digit : (x n : ℕ) → x ≡ 48 + n → n ≤ 9 → Hex x n
hex-digit x n e h = rw e (hex_digit h)

pub hex-upper : (x n : ℕ) → x ≡ 55 + n → 10 ≤ n → n ≤ 15 → Hex x n
hex-upper x n e l h = let p : x ≡ 65 + (n - 10) = omega arith in let q : 10 + (n - 10) ≡ n = omega arith in
    rw p (subst (λ (v : ℕ). Hex (65 + (n - 10)) v) q (hex_upper (omega arith)))

pub hex-lower : (x n : ℕ) → x ≡ 87 + n → 10 ≤ n → n ≤ 15 → Hex x n
hex-lower x n e l h = let p : x ≡ 97 + (n - 10) = omega arith in let q : 10 + (n - 10) ≡ n = omega arith in
    rw p (subst (λ (v : ℕ). Hex (97 + (n - 10)) v) q (hex_lower (omega arith)))

pub no-hex : (x : ℕ) → (x < 48) ⊎ (57 < x) → (x < 65) ⊎ (70 < x) → (x < 97) ⊎ (102 < x) → (n : ℕ) → Hex x n → ⊥
no-hex x d u l n h = let a = hex-is h in omega arith

-- a letter is no digit and no `x`
pub letter-high : {l c : ℕ} → Letter l c → (97 ≤ l) × (l ≢ 120)
letter-high letter_a = (omega arith, omega arith)
letter-high letter_b = (omega arith, omega arith)
letter-high letter_e = (omega arith, omega arith)
letter-high letter_f = (omega arith, omega arith)
letter-high letter_n = (omega arith, omega arith)
letter-high letter_r = (omega arith, omega arith)
letter-high letter_t = (omega arith, omega arith)
letter-high letter_v = (omega arith, omega arith)

-- no digit of an escape
pub record IsNoDigit (l : ℕ) : Type 0 where
  pub octal : (n : ℕ) → Octal l n → ⊥
  pub hex : l ≢ 120

letter-no_digit : {l c : ℕ} → Letter l c → IsNoDigit l
letter-no_digit {l} h = let x = letter-high h in record { octal = no-octal l (inr (omega arith)); hex = x.1 }

module _ where
  form-length : {t s : List ℕ} {c : ℕ} → Form t s c → length t ≤ length s + 4
  form-length (unescaped h) = omega arith
  form-length (letter h) = omega arith
  form-length (octal_three h k i j) = omega arith
  form-length (octal_two h k) = omega arith
  form-length (octal_one h) = omega arith
  form-length (hex_two h k) = omega arith
  form-length (hex_one h) = omega arith
  form-length (itself h k) = omega arith

  form-plain : {b c : ℕ} {r s : List ℕ} → b ≢ 92 → Form (b ∷ r) s c → length r ≤ length s
  form-plain d (unescaped h) = omega arith
  form-plain d (letter h) = absurd (d refl)
  form-plain d (octal_three h k i j) = absurd (d refl)
  form-plain d (octal_two h k) = absurd (d refl)
  form-plain d (octal_one h) = absurd (d refl)
  form-plain d (hex_two h k) = absurd (d refl)
  form-plain d (hex_one h) = absurd (d refl)
  form-plain d (itself h k) = absurd (d refl)

  -- after a byte that is no digit, nothing more is taken
  form-no_digit : {l c : ℕ} {r s : List ℕ} → IsNoDigit l → Form (92 ∷ l ∷ r) s c → length r ≤ length s
  form-no_digit d (unescaped h) = absurd (h refl)
  form-no_digit d (letter h) = omega arith
  form-no_digit d (octal_three h k i j) = absurd (d.octal _ h)
  form-no_digit d (octal_two h k) = absurd (d.octal _ h)
  form-no_digit d (octal_one h) = absurd (d.octal _ h)
  form-no_digit d (hex_two h k) = absurd (d.hex refl)
  form-no_digit d (hex_one h) = absurd (d.hex refl)
  form-no_digit d (itself h k) = omega arith

  not-octal_x : {n : ℕ} → Octal 120 n → ⊥
  not-octal_x {n} h = no-octal 120 (inr (omega arith)) n h

  form-no_hex : {c : ℕ} {r s : List ℕ} → NoDigit Hex r → Form (92 ∷ 120 ∷ r) s c → length r ≤ length s
  form-no_hex d (unescaped h) = absurd (h refl)
  form-no_hex d (letter h) = omega arith
  form-no_hex d (octal_three h k i j) = absurd (not-octal_x h)
  form-no_hex d (octal_two h k) = absurd (not-octal_x h)
  form-no_hex d (octal_one h) = absurd (not-octal_x h)
  form-no_hex d (hex_two h k) = absurd (d.none _ _ (digit_first h))
  form-no_hex d (hex_one h) = absurd (d.none _ _ (digit_first h))
  form-no_hex d (itself h k) = omega arith

  form-one_hex : {x c : ℕ} {r s : List ℕ} → NoDigit Hex r → Form (92 ∷ 120 ∷ x ∷ r) s c → length r ≤ length s
  form-one_hex d (unescaped h) = absurd (h refl)
  form-one_hex d (letter h) = omega arith
  form-one_hex d (octal_three h k i j) = absurd (not-octal_x h)
  form-one_hex d (octal_two h k) = absurd (not-octal_x h)
  form-one_hex d (octal_one h) = absurd (not-octal_x h)
  form-one_hex d (hex_two h k) = absurd (d.none _ _ (digit_first k))
  form-one_hex d (hex_one h) = omega arith
  form-one_hex d (itself h k) = omega arith

  form-one_octal : {x k c : ℕ} {r s : List ℕ} → Octal x k → NoDigit Octal r → Form (92 ∷ x ∷ r) s c
      → length r ≤ length s
  form-one_octal o d (unescaped h) = absurd (h refl)
  form-one_octal o d (letter h) = omega arith
  form-one_octal o d (octal_three h k i j) = absurd (d.none _ _ (digit_first i))
  form-one_octal o d (octal_two h k) = absurd (d.none _ _ (digit_first k))
  form-one_octal o d (octal_one h) = omega arith
  form-one_octal o d (hex_two h k) = absurd (not-octal_x o)
  form-one_octal o d (hex_one h) = absurd (not-octal_x o)
  form-one_octal o d (itself h k) = omega arith

  form-two_octal : {x y k c : ℕ} {r s : List ℕ} → Octal x k → (3 < k) ⊎ NoDigit Octal r → Form (92 ∷ x ∷ y ∷ r) s c
      → length r ≤ length s
  form-two_octal o d (unescaped h) = absurd (h refl)
  form-two_octal o d (letter h) = omega arith
  form-two_octal o (inl g) (octal_three h k i j) = absurd (let e = octal-same o h in omega arith)
  form-two_octal o (inr g) (octal_three h k i j) = absurd (g.none _ _ (digit_first j))
  form-two_octal o d (octal_two h k) = omega arith
  form-two_octal o d (octal_one h) = omega arith
  form-two_octal o d (hex_two h k) = absurd (not-octal_x o)
  form-two_octal o d (hex_one h) = absurd (not-octal_x o)
  form-two_octal o d (itself h k) = omega arith

module _ where
  pub char-plain : {b : ℕ} {r : List ℕ} → b ≢ 92 → Char (b ∷ r) r b
  char-plain h = record { form = unescaped h; longest = λ s c f. form-plain h f }

  pub char-letter : {l b : ℕ} {r : List ℕ} → Letter l b → Char (92 ∷ l ∷ r) r b
  char-letter h = record { form = letter h; longest = λ s c f. form-no_digit (letter-no_digit h) f }

  pub char-itself : {b : ℕ} {r : List ℕ} → ((c : ℕ) → Letter b c → ⊥) → IsNoDigit b → Char (92 ∷ b ∷ r) r b
  char-itself h d = record { form = itself h d.octal; longest = λ s c f. form-no_digit d f }

  pub char-x : {r : List ℕ} → NoDigit Hex r → Char (92 ∷ 120 ∷ r) r 120
  char-x d = record {
    form = itself (λ c h. let x = letter-high h in x.1 refl) (no-octal 120 (inr (omega arith)));
    longest = λ s c f. form-no_hex d f;
  }

  pub char-one_hex : {t r : List ℕ} {m : ℕ} → DigitFirst Hex t r m → NoDigit Hex r → Char (92 ∷ 120 ∷ t) r m
  char-one_hex (digit_first h) d = record { form = hex_one h; longest = λ s c f. form-one_hex d f }

  pub char-two_hex : {t u r : List ℕ} {m n : ℕ} → DigitFirst Hex t u m → DigitFirst Hex u r n
      → Char (92 ∷ 120 ∷ t) r (16 * m + n)
  char-two_hex (digit_first h) (digit_first k) = record {
    form = hex_two h k;
    longest = λ s c f. (let x = form-length f in omega arith);
  }

  pub char-one_octal : {x n : ℕ} {r : List ℕ} → Octal x n → NoDigit Octal r → Char (92 ∷ x ∷ r) r n
  char-one_octal h d = record { form = octal_one h; longest = λ s c f. form-one_octal h d f }

  pub char-two_octal : {x m n : ℕ} {t r : List ℕ} → Octal x m → DigitFirst Octal t r n → (3 < m) ⊎ NoDigit Octal r
      → Char (92 ∷ x ∷ t) r (8 * m + n)
  char-two_octal h (digit_first k) d = record { form = octal_two h k; longest = λ s c f. form-two_octal h d f }

  pub char-three_octal : {x k m n : ℕ} {t u r : List ℕ} → Octal x k → k ≤ 3 → DigitFirst Octal t u m
      → DigitFirst Octal u r n → Char (92 ∷ x ∷ t) r (64 * k + (8 * m + n))
  char-three_octal h l (digit_first i) (digit_first j) =
      record { form = octal_three h l i j; longest = λ s c f. (let x = form-length f in omega arith) }

-- the same byte by another sum
pub char-at : {t r : List ℕ} {b c : ℕ} → Char t r b → b ≡ c → Char t r c
char-at {t} {r} h e = subst (λ (v : ℕ). Char t r v) e h

module _ {D : ℕ → ℕ → Type 0} where
  pub no_digit-empty : NoDigit D []
  no_digit-empty = record { none = λ r n h. elim h [ ] }

  no-first : {x n : ℕ} {t r : List ℕ} → ((m : ℕ) → D x m → ⊥) → DigitFirst D (x ∷ t) r n → ⊥
  no-first f (digit_first h) = f _ h

  pub no_digit-here : {x : ℕ} {t : List ℕ} → ((n : ℕ) → D x n → ⊥) → NoDigit D (x ∷ t)
  no_digit-here f = record { none = λ r n h. no-first f h }

  -- the same of a text that `split_first` took apart
  pub no_digit-nothing : (t : List ℕ) → length t ≡ 0 → NoDigit D t
  no_digit-nothing [] e = no_digit-empty
  no_digit-nothing (b ∷ bs) e = cc

  pub no_digit-begins : {x : ℕ} {t u : List ℕ} → t ≡ x ∷ u → ((n : ℕ) → D x n → ⊥) → NoDigit D t
  no_digit-begins e f = rw e (no_digit-here f)

  pub digit-begins : {x n : ℕ} {t u : List ℕ} → t ≡ x ∷ u → D x n → DigitFirst D t u n
  digit-begins e h = rw e (digit_first h)
