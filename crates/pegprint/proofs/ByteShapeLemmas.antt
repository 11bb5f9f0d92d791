-- How a canonical text writes a byte, and that it is read as that byte.
-- Serves: is_read_back
use Rattle.std.proofs.Common.{◌≡◌, ◌≢◌, ℕ, ◌+◌, ◌*◌, ◌/◌, ◌%◌, ◌<◌, ◌≤◌, ◌==◌, ◌||◌, cond, Bool, true, false, Option}
use Rattle.std.proofs.Common.{Some, List, [], ◌∷◌, ◌++◌, refl, sym, ◌∙◌, subst, arith, append_assoc, ◌⊎◌, inl, inr}
use Rattle.std.specs.List.{flat_map}
use Rattle.std.proofs.lemmas.Bool.{eqb-true, eqb-false, or_parts, or_cases}
use Rattle.pegread.specs.Chars.{Octal, octal_digit, Letter, letter_a, letter_b, letter_e, letter_f, letter_n, letter_r}
use Rattle.pegread.specs.Chars.{letter_t, letter_v, Char, Chars, no_chars, more_chars, digit_first}
use Rattle.pegread.specs.Escapes.{letter_for, with_letter, octal_of, is_unprintable, written, escaped, shown}
use Rattle.pegread.specs.Formed.{AreBytes}
use Rattle.pegread.specs.Literals.{SpellsBytes}
use Rattle.pegread.specs.Slices.{Closes, close, escape, plain}
use Rattle.pegread.proofs.CharFormLemmas.{octal-is, no-octal, letter-high, char-plain, char-letter, char-itself}
use Rattle.pegread.proofs.CharFormLemmas.{char-three_octal}

-- a byte that stands for itself after a backslash
abbrev pub IsMarked : ℕ → Type 0
IsMarked b = (b < 97) × ((b < 48) ⊎ (55 < b))

-- how a byte is written, where P holds of the bytes that stand for themselves
pub data Shape (P : ℕ → Type 0) : ℕ → List ℕ → Type 0 where
  as_is : {b : ℕ} → P b → b ≢ 92 → Shape P b (b ∷ [])
  lettered : {l b : ℕ} → Letter l b → Shape P b (92 ∷ l ∷ [])
  backslashed : {b : ℕ} → IsMarked b → Shape P b (92 ∷ b ∷ [])
  octals : {x y z k m n : ℕ} → Octal x k → k ≤ 3 → Octal y m → Octal z n
      → Shape P (64 * k + (8 * m + n)) (92 ∷ x ∷ y ∷ z ∷ [])

module _ {P : ℕ → Type 0} where
  octal-shape : (c : ℕ) → c < 256 → Shape P c (octal_of c)
  octal-shape c h =
      let w : Shape P (64 * (c / 8 / 8) + (8 * (c / 8 % 8) + c % 8)) (octal_of c) =
      octals (octal_digit (omega arith)) (omega arith) (octal_digit (omega arith)) (octal_digit (omega arith)) in
      let e : 64 * (c / 8 / 8) + (8 * (c / 8 % 8) + c % 8) ≡ c = omega arith in
      subst (λ (x : ℕ). Shape P x (octal_of c)) e w

  -- one row of the table of letters
  letter-case : (c l d : ℕ) (o : Option ℕ) (s : List ℕ) (x : Bool) → (c == d) ≡ x → Letter l d
      → Shape P c (with_letter o s) → Shape P c (with_letter (cond x (Some l) o) s)
  letter-case c l d o s true h k w = subst (λ (y : ℕ). Shape P y (92 ∷ l ∷ [])) (sym (eqb-true c d h)) (lettered k)
  letter-case c l d o s false h k w = w

  letters-shape : (c : ℕ) (s : List ℕ) → Shape P c s → Shape P c (with_letter (letter_for c) s)
  letters-shape c s w =
      letter-case c _ 7 _ s (c == 7) refl letter_a (letter-case c _ 8 _ s (c == 8) refl letter_b
      (letter-case c _ 27 _ s (c == 27) refl letter_e (letter-case c _ 12 _ s (c == 12) refl letter_f
      (letter-case c _ 10 _ s (c == 10) refl letter_n
      (letter-case c _ 13 _ s (c == 13) refl letter_r
      (letter-case c _ 9 _ s (c == 9) refl letter_t (letter-case c _ 11 _ s (c == 11) refl letter_v w)))))))

  unlettered-shape : (c : ℕ) (as_octal marked : Bool) → c < 256 → (marked ≡ true → IsMarked c)
      → (as_octal ≡ false → marked ≡ false → P c × (c ≢ 92))
      → Shape P c (cond as_octal (octal_of c) (cond marked (92 ∷ c ∷ []) (c ∷ [])))
  unlettered-shape c true marked h m p = octal-shape c h
  unlettered-shape c false true h m p = backslashed {b = c} (m refl)
  unlettered-shape c false false h m p = let q = p refl refl in as_is q.0 q.1

  written-shape : (c : ℕ) (as_octal marked : Bool) → c < 256 → (marked ≡ true → IsMarked c)
      → (as_octal ≡ false → marked ≡ false → P c × (c ≢ 92)) → Shape P c (written c as_octal marked)
  unfolding written
  written-shape c as_octal marked h m p = letters-shape c _ (unlettered-shape c as_octal marked h m p)

-- a byte that stands for itself in a literal
abbrev pub IsPlain : ℕ → Type 0
IsPlain b = b ≢ 34

literal-marked : (c : ℕ) → ((c == 34) || (c == 92)) ≡ true → IsMarked c
literal-marked c h = elim (or_cases (c == 34) (c == 92) h) [
  | inl e ↦ (let x = eqb-true c 34 e in (omega arith, inl (omega arith)))
  | inr e ↦ (let x = eqb-true c 92 e in (omega arith, inr (omega arith)))
]

pub escaped-shape : (c : ℕ) → c < 256 → Shape IsPlain c (escaped c)
escaped-shape c h = written-shape c (is_unprintable c) ((c == 34) || (c == 92)) h (literal-marked c)
    (λ o m. (let x = or_parts (c == 34) (c == 92) m in (eqb-false c 34 x.0, eqb-false c 92 x.1)))

-- a byte that stands for itself in a class
abbrev pub IsBare : ℕ → Type 0
IsBare b = (b ≢ 93) × (b ≢ 45) × (b ≢ 94)

class-marked : (c : ℕ) → ((c == 91) || (c == 92) || (c == 93)) ≡ true → IsMarked c
class-marked c h = elim (or_cases ((c == 91) || (c == 92)) (c == 93) h) [
  | inl e ↦ elim (or_cases (c == 91) (c == 92) e) [
    | inl k ↦ (let x = eqb-true c 91 k in (omega arith, inr (omega arith)))
    | inr k ↦ (let x = eqb-true c 92 k in (omega arith, inr (omega arith)))
  ]
  | inr e ↦ (let x = eqb-true c 93 e in (omega arith, inr (omega arith)))
]

class-plain : (c : ℕ) → (is_unprintable c || (c == 45) || (c == 94)) ≡ false → ((c == 91) || (c == 92) || (c == 93))
    ≡ false → IsBare c × (c ≢ 92)
class-plain c o m =
    let a = or_parts (is_unprintable c || (c == 45)) (c == 94) o in
    let b = or_parts (is_unprintable c) (c == 45) a.0 in
    let x = or_parts ((c == 91) || (c == 92)) (c == 93) m in
    let y = or_parts (c == 91) (c == 92) x.0 in
    ((eqb-false c 93 x.1, eqb-false c 45 b.1, eqb-false c 94 a.1), eqb-false c 92 y.1)

pub shown-shape : (c : ℕ) → c < 256 → Shape IsBare c (shown c)
shown-shape c h = written-shape c (is_unprintable c || (c == 45) || (c == 94)) ((c == 91) || (c == 92) || (c == 93)) h
    (class-marked c) (class-plain c)

low-letter : (l : ℕ) → l < 97 → (c : ℕ) → Letter l c → ⊥
low-letter l h c k = let x = letter-high k in omega arith

-- a byte's text is read as the byte, whatever follows
pub shape-char : {P : ℕ → Type 0} {c : ℕ} {s : List ℕ} (u : List ℕ) → Shape P c s → Char (s ++ u) u c
shape-char u (as_is p q) = char-plain q
shape-char u (lettered h) = char-letter h
shape-char u (backslashed {b} h) = char-itself (low-letter b h.0) (record { octal = no-octal b h.1; hex = omega arith })
shape-char u (octals h k i j) = char-three_octal h k (digit_first i) (digit_first j)

escaped-chars : (bs : List ℕ) → AreBytes bs → Chars (flat_map escaped bs) bs
escaped-chars [] w = no_chars
escaped-chars (c ∷ bs) w = more_chars (shape-char (flat_map escaped bs) (escaped-shape c w.0)) (escaped-chars bs w.1)

pub bytes-spelled : (bs : List ℕ) → AreBytes bs → SpellsBytes (34 ∷ (flat_map escaped bs ++ 34 ∷ [])) bs
bytes-spelled bs w = record { mark = 34; inside = flat_map escaped bs; cut = refl; chars = escaped-chars bs w }

digit-on : {x k mark : ℕ} {u m : List ℕ} → (mark < 48) ⊎ (55 < mark) → Octal x k → Closes mark u m
    → Closes mark (x ∷ u) m
digit-on (inl z) o h = let x = octal-is o in plain (omega arith) (omega arith) h
digit-on (inr z) o h = let x = octal-is o in plain (omega arith) (omega arith) h

-- no byte's text closes a literal or a class
pub closes-on : {P : ℕ → Type 0} {c mark : ℕ} {s : List ℕ} {u m : List ℕ} → ((b : ℕ) → P b → b ≢ mark) → (mark < 48)
    ⊎ (55 < mark) → Shape P c s → Closes mark u m → Closes mark (s ++ u) m
closes-on n z (as_is p q) h = plain (n _ p) q h
closes-on n z (lettered k) h = escape h
closes-on n z (backslashed k) h = escape h
closes-on n z (octals o k i j) h = escape (digit-on z i (digit-on z j h))

pub closes-bytes : (bs m : List ℕ) → AreBytes bs → Closes 34 ((flat_map escaped bs ++ 34 ∷ []) ++ m) m
closes-bytes [] m w = close
closes-bytes (c ∷ bs) m w = subst (λ (x : List ℕ). Closes 34 x m)
    (sym (append_assoc (escaped c ++ flat_map escaped bs) (34 ∷ []) m ∙ append_assoc (escaped c) (flat_map escaped bs)
    (34 ∷ m)))
    (closes-on (λ b p. p) (inl (omega arith)) (escaped-shape c w.0) (rw append_assoc at (closes-bytes bs m w.1)))
