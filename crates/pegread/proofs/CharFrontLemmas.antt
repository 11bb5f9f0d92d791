-- The front of a text spells at most one byte, and one unless the text is empty or a backslash alone.
-- Serves: spells_one_char, spells_some_char, spells_one_class, spells_some_class, one_tree, read_peg
use Rattle.std.proofs.Common.{◌≡◌, ◌≢◌, ℕ, ◌+◌, ◌*◌, ◌-◌, ◌<◌, List, [], ◌∷◌, ◌++◌, length, drop, refl, sym, ap, ◌∙◌}
use Rattle.std.proofs.Common.{arith, ◌⊎◌, inl, inr, length-append}
use Rattle.std.proofs.lemmas.Bool.{cases_lt, cases_eq}
use Rattle.std.proofs.lemmas.List.{drop_at}
use Rattle.pegread.specs.Chars.{Octal, Hex, DigitFirst, digit_first, NoDigit, Letter, letter_a, letter_b, letter_e}
use Rattle.pegread.specs.Chars.{letter_f, letter_n, letter_r, letter_t, letter_v, Form, unescaped, letter, octal_three}
use Rattle.pegread.specs.Chars.{octal_two, octal_one, hex_two, hex_one, itself, Char, SpellsNone}
use Rattle.pegread.proofs.CharFormLemmas.{octal-here, octal-same, no-octal, hex-digit, hex-upper, hex-lower, hex-same}
use Rattle.pegread.proofs.CharFormLemmas.{no-hex, letter-high, no_digit-empty, no_digit-here, char-plain, char-letter}
use Rattle.pegread.proofs.CharFormLemmas.{char-itself, char-x, char-one_hex, char-two_hex, char-one_octal}
use Rattle.pegread.proofs.CharFormLemmas.{char-two_octal, char-three_octal}

letter-same : {l b c : ℕ} → Letter l b → Letter l c → b ≡ c
letter-same letter_a letter_a = refl
letter-same letter_b letter_b = refl
letter-same letter_e letter_e = refl
letter-same letter_f letter_f = refl
letter-same letter_n letter_n = refl
letter-same letter_r letter_r = refl
letter-same letter_t letter_t = refl
letter-same letter_v letter_v = refl

not-x : {n : ℕ} → Octal 120 n → ⊥
not-x {n} h = no-octal 120 (inr (omega arith)) n h

letter-not_octal : {l b n : ℕ} → Letter l b → Octal l n → ⊥
letter-not_octal {l} {n = n} h o = let x = letter-high h in no-octal l (inr (omega arith)) n o

-- two forms that reach as far spell one byte
form-value : {t r s : List ℕ} {b c : ℕ} → Form t r b → Form t s c → length r ≡ length s → b ≡ c
form-value (unescaped h) (unescaped k) e = refl
form-value (unescaped h) k e = absurd (h refl)
form-value h (unescaped k) e = absurd (k refl)
form-value (letter h) (letter k) e = letter-same h k
form-value (letter h) (octal_one k) e = absurd (letter-not_octal h k)
form-value (letter h) (itself k l) e = absurd (k _ h)
form-value (letter h) k e = absurd (omega arith)
form-value (octal_three h k i j) (octal_three h' k' i' j') e =
    (let p = octal-same h h' in let q = octal-same i i' in let r = octal-same j j' in omega arith)
form-value (octal_three h k i j) (hex_two p q) e = absurd (not-x h)
form-value (octal_three h k i j) l e = absurd (omega arith)
form-value (octal_two h k) (octal_two h' k') e = (let p = octal-same h h' in let q = octal-same k k' in omega arith)
form-value (octal_two h k) (hex_one p) e = absurd (not-x h)
form-value (octal_two h k) l e = absurd (omega arith)
form-value (octal_one h) (letter k) e = absurd (letter-not_octal k h)
form-value (octal_one h) (octal_one k) e = octal-same h k
form-value (octal_one h) (itself k l) e = absurd (l _ h)
form-value (octal_one h) k e = absurd (omega arith)
form-value (hex_two h k) (hex_two h' k') e = (let p = hex-same h h' in let q = hex-same k k' in omega arith)
form-value (hex_two h k) (octal_three p q i j) e = absurd (not-x p)
form-value (hex_two h k) l e = absurd (omega arith)
form-value (hex_one h) (hex_one k) e = hex-same h k
form-value (hex_one h) (octal_two p q) e = absurd (not-x p)
form-value (hex_one h) k e = absurd (omega arith)
form-value (itself h k) (letter l) e = absurd (h _ l)
form-value (itself h k) (octal_one l) e = absurd (k _ l)
form-value (itself h k) (itself h' k') e = refl
form-value (itself h k) l e = absurd (omega arith)

-- the bytes that a form takes
form-front : {t r : List ℕ} {b : ℕ} → Form t r b → (front : List ℕ) × (t ≡ front ++ r)
form-front (unescaped {b} h) = (b ∷ [], refl)
form-front (letter {l} h) = (92 ∷ l ∷ [], refl)
form-front (octal_three {x} {y} {z} h k i j) = (92 ∷ x ∷ y ∷ z ∷ [], refl)
form-front (octal_two {x} {y} h k) = (92 ∷ x ∷ y ∷ [], refl)
form-front (octal_one {x} h) = (92 ∷ x ∷ [], refl)
form-front (hex_two {x} {y} h k) = (92 ∷ 120 ∷ x ∷ y ∷ [], refl)
form-front (hex_one {x} h) = (92 ∷ 120 ∷ x ∷ [], refl)
form-front (itself {b} h k) = (92 ∷ b ∷ [], refl)

-- two ends of a text that are as long are one
same-end : (t f g r s : List ℕ) → t ≡ f ++ r → t ≡ g ++ s → length r ≡ length s → r ≡ s
same-end t f g r s p q e =
    let a = drop_at f r (length f) refl in
    let b = drop_at g s (length g) refl in
    let n : length f ≡ length g = omega (arith, ap length p, ap length q, length-append f r, length-append g s) in
    sym a ∙ ap (drop (length f)) (sym p ∙ q) ∙ ap (λ (m : ℕ). drop m (g ++ s)) n ∙ b

pub char-one : (t r s : List ℕ) (b c : ℕ) → Char t r b → Char t s c → (r ≡ s) × (b ≡ c)
char-one t r s b c h k =
    let x = h.longest s c k.form in
    let y = k.longest r b h.form in
    let e : length r ≡ length s = omega arith in
    let f = form-front h.form in
    let g = form-front k.form in
    (same-end t f.0 g.0 r s f.1 g.1 e, form-value h.form k.form e)

form-shorter : {t r : List ℕ} {b : ℕ} → Form t r b → length r < length t
form-shorter (unescaped h) = omega arith
form-shorter (letter h) = omega arith
form-shorter (octal_three h k i j) = omega arith
form-shorter (octal_two h k) = omega arith
form-shorter (octal_one h) = omega arith
form-shorter (hex_two h k) = omega arith
form-shorter (hex_one h) = omega arith
form-shorter (itself h k) = omega arith

-- each character takes something
pub char-shorter : {t r : List ℕ} {b : ℕ} → Char t r b → length r < length t
char-shorter h = form-shorter h.form

form-some : {t r : List ℕ} {b : ℕ} → Form t r b → SpellsNone t → ⊥
form-some (unescaped {r = []} h) n = h n
form-some (unescaped {r = c ∷ cs} h) n = n
form-some (letter h) n = n
form-some (octal_three h k i j) n = n
form-some (octal_two h k) n = n
form-some (octal_one h) n = n
form-some (hex_two h k) n = n
form-some (hex_one h) n = n
form-some (itself h k) n = n

pub no-char : (t r : List ℕ) (b : ℕ) → Char t r b → SpellsNone t → ⊥
no-char t r b h n = form-some h.form n

-- which bytes are digits and letters
pub octal-reports : (x : ℕ) → ((n : ℕ) × Octal x n) ⊎ ((n : ℕ) → Octal x n → ⊥)
octal-reports x = elim (cases_lt x 48) [
  | inl h ↦ inr (no-octal x (inl h))
  | inr h ↦ elim (cases_lt 55 x) [
    | inl k ↦ inr (no-octal x (inr k))
    | inr k ↦ inl (x - 48, octal-here x (x - 48) (omega arith) (omega arith))
  ]
]

pub hex-reports : (x : ℕ) → ((n : ℕ) × Hex x n) ⊎ ((n : ℕ) → Hex x n → ⊥)
hex-reports x = elim (cases_lt x 58) [
  | inl h ↦ elim (cases_lt x 48) [
    | inl k ↦ inr (no-hex x (inl k) (inl (omega arith)) (inl (omega arith)))
    | inr k ↦ inl (x - 48, hex-digit x (x - 48) (omega arith) (omega arith))
  ]
  | inr h ↦ elim (cases_lt x 71) [
    | inl k ↦ elim (cases_lt x 65) [
      | inl l ↦ inr (no-hex x (inr h) (inl l) (inl (omega arith)))
      | inr l ↦ inl (x - 55, hex-upper x (x - 55) (omega arith) (omega arith) (omega arith))
    ]
    | inr k ↦ elim (cases_lt x 97) [
      | inl l ↦ inr (no-hex x (inr h) (inr k) (inl l))
      | inr l ↦ elim (cases_lt 102 x) [
        | inl m ↦ inr (no-hex x (inr h) (inr k) (inr m))
        | inr m ↦ inl (x - 87, hex-lower x (x - 87) (omega arith) (omega arith) (omega arith))
      ]
    ]
  ]
]

-- none of the letters
pub record IsNoLetter (l : ℕ) : Type 0 where
  pub bell : l ≢ 97
  pub backspace : l ≢ 98
  pub escape : l ≢ 101
  pub form_feed : l ≢ 102
  pub line_feed : l ≢ 110
  pub carriage_return : l ≢ 114
  pub tab : l ≢ 116
  pub vertical_tab : l ≢ 118

pub no-letter : (l : ℕ) → IsNoLetter l → (b : ℕ) → Letter l b → ⊥
no-letter l n b letter_a = n.bell refl
no-letter l n b letter_b = n.backspace refl
no-letter l n b letter_e = n.escape refl
no-letter l n b letter_f = n.form_feed refl
no-letter l n b letter_n = n.line_feed refl
no-letter l n b letter_r = n.carriage_return refl
no-letter l n b letter_t = n.tab refl
no-letter l n b letter_v = n.vertical_tab refl

letter-reports : (l : ℕ) → ((b : ℕ) × Letter l b) ⊎ ((b : ℕ) → Letter l b → ⊥)
letter-reports l = elim (cases_eq l 97) [
  | inl e ↦ inl (7, rw e letter_a)
  | inr a ↦
      elim (cases_eq l 98) [
        | inl e ↦ inl (8, rw e letter_b)
        | inr b ↦
            elim (cases_eq l 101) [
              | inl e ↦ inl (27, rw e letter_e)
              | inr c ↦
                  elim (cases_eq l 102) [
                    | inl e ↦ inl (12, rw e letter_f)
                    | inr d ↦
                        elim (cases_eq l 110) [
                          | inl e ↦ inl (10, rw e letter_n)
                          | inr f ↦
                              elim (cases_eq l 114) [
                                | inl e ↦ inl (13, rw e letter_r)
                                | inr g ↦
                                    elim (cases_eq l 116) [
                                      | inl e ↦ inl (9, rw e letter_t)
                                      | inr h ↦
                                          elim (cases_eq l 118) [
                                            | inl e ↦ inl (11, rw e letter_v)
                                            | inr k ↦
                                                inr (no-letter l (record {
                                                  bell = a;
                                                  backspace = b;
                                                  escape = c;
                                                  form_feed = d;
                                                  line_feed = f;
                                                  carriage_return = g;
                                                  tab = h;
                                                  vertical_tab = k;
                                                }))
                                          ]
                                    ]
                              ]
                        ]
                  ]
            ]
      ]
]

first-reports : {D : ℕ → ℕ → Type 0} → ((x : ℕ) → ((n : ℕ) × D x n) ⊎ ((n : ℕ) → D x n → ⊥)) → (t : List ℕ)
    → ((r : List ℕ) × (n : ℕ) × DigitFirst D t r n) ⊎ NoDigit D t
first-reports f [] = inr no_digit-empty
first-reports f (x ∷ t) = elim (f x) [ inl h ↦ inl (t, h.0, digit_first h.1) | inr h ↦ inr (no_digit-here h) ]

abbrev Some : List ℕ → Type 0
Some t = (r : List ℕ) × (b : ℕ) × Char t r b

some-hex : (t : List ℕ) → Some (92 ∷ 120 ∷ t)
some-hex t = elim (first-reports hex-reports t) [
  | inl h ↦ elim (first-reports hex-reports h.0) [
    | inl k ↦ (k.0, 16 * h.1 + k.1, char-two_hex h.2 k.2)
    | inr n ↦ (h.0, h.1, char-one_hex h.2 n)
  ]
  | inr n ↦ (t, 120, char-x n)
]

some-octal : (x k : ℕ) (t : List ℕ) → Octal x k → Some (92 ∷ x ∷ t)
some-octal x k t o = elim (first-reports octal-reports t) [
  | inl h ↦ elim (cases_lt 3 k) [
    | inl l ↦ (h.0, 8 * k + h.1, char-two_octal o h.2 (inl l))
    | inr l ↦ elim (first-reports octal-reports h.0) [
      | inl i ↦ (i.0, 64 * k + (8 * h.1 + i.1), char-three_octal o l h.2 i.2)
      | inr n ↦ (h.0, 8 * k + h.1, char-two_octal o h.2 (inr n))
    ]
  ]
  | inr n ↦ (t, k, char-one_octal o n)
]

some-escape : (x : ℕ) (t : List ℕ) → Some (92 ∷ x ∷ t)
some-escape x t = elim (cases_eq x 120) [
  | inl e ↦ rw e (some-hex t)
  | inr n ↦ elim (octal-reports x) [
    | inl o ↦ some-octal x o.0 t o.1
    | inr d ↦ elim (letter-reports x) [
      | inl l ↦ (t, l.0, char-letter l.1)
      | inr k ↦ (t, x, char-itself k (record { octal = d; hex = n }))
    ]
  ]
]

pub some-char : (t : List ℕ) → SpellsNone t ⊎ ((r : List ℕ) × (b : ℕ) × Char t r b)
some-char [] = inl tt
some-char (b ∷ []) = elim (cases_eq b 92) [ inl e ↦ inl e | inr n ↦ inr ([], b, char-plain n) ]
some-char (b ∷ c ∷ cs) = inr (elim (cases_eq b 92)
    [ inl e ↦ rw e (some-escape c cs) | inr n ↦ (c ∷ cs, b, char-plain n) ])
