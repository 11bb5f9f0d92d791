-- How literals and classes spell a byte: as itself, or by an escape, which a backslash begins.
pub use Prim.Native.Char.{code}
use Rattle.std.specs.Prelude.{◌≡◌, ◌≢◌, ℕ, ◌+◌, ◌*◌, ◌≤◌, List, [], ◌∷◌, length}

-- an octal digit and its value
pub data Octal : ℕ → ℕ → Type 0 where
  octal_digit : {d : ℕ} → d ≤ 7 → Octal (code "0" + d) d

-- a hexadecimal digit, of either case, and its value
pub data Hex : ℕ → ℕ → Type 0 where
  hex_digit : {d : ℕ} → d ≤ 9 → Hex (code "0" + d) d
  hex_upper : {d : ℕ} → d ≤ 5 → Hex (code "A" + d) (10 + d)
  hex_lower : {d : ℕ} → d ≤ 5 → Hex (code "a" + d) (10 + d)

-- a digit of the kind begins the text: the text, what follows the digit, and its value
pub data DigitFirst (Digit : ℕ → ℕ → Type 0) : List ℕ → List ℕ → ℕ → Type 0 where
  digit_first : {x n : ℕ} {r : List ℕ} → Digit x n → DigitFirst Digit (x ∷ r) r n

-- no digit of the kind begins the text
pub record NoDigit (Digit : ℕ → ℕ → Type 0) (t : List ℕ) : Type 0 where
  pub none : (r : List ℕ) (n : ℕ) → DigitFirst Digit t r n → ⊥

-- a letter that stands for a control byte when a backslash precedes it, and that byte
pub data Letter : ℕ → ℕ → Type 0 where
  -- `\a`, the bell
  letter_a : Letter (code "a") 7
  -- `\b`, backspace
  letter_b : Letter (code "b") 8
  -- `\e`, escape
  letter_e : Letter (code "e") 27
  -- `\f`, form feed
  letter_f : Letter (code "f") 12
  -- `\n`, line feed
  letter_n : Letter (code "n") 10
  -- `\r`, carriage return
  letter_r : Letter (code "r") 13
  -- `\t`, tab
  letter_t : Letter (code "t") 9
  -- `\v`, vertical tab
  letter_v : Letter (code "v") 11

-- A way to spell a byte at the front of a text: the text, what follows the spelling, and the byte. One text may
-- have several: see Char. The table of forms is a rule of our own, as a whole.
pub data Form : List ℕ → List ℕ → ℕ → Type 0 where
  -- any byte but a backslash, for itself
  unescaped : {b : ℕ} {r : List ℕ} → b ≢ code "\\" → Form (b ∷ r) r b
  -- a backslash and one of the letters
  letter : {l b : ℕ} {r : List ℕ} → Letter l b → Form (code "\\" ∷ l ∷ r) r b
  -- a backslash and three octal digits, the first at most 3
  octal_three : {x y z k m n : ℕ} {r : List ℕ} → Octal x k → k ≤ 3 → Octal y m → Octal z n
      → Form (code "\\" ∷ x ∷ y ∷ z ∷ r) r (64 * k + (8 * m + n))
  -- a backslash and two octal digits
  octal_two : {x y m n : ℕ} {r : List ℕ} → Octal x m → Octal y n → Form (code "\\" ∷ x ∷ y ∷ r) r (8 * m + n)
  -- a backslash and one octal digit
  octal_one : {x n : ℕ} {r : List ℕ} → Octal x n → Form (code "\\" ∷ x ∷ r) r n
  -- `\x` and two hexadecimal digits
  hex_two : {x y m n : ℕ} {r : List ℕ} → Hex x m → Hex y n → Form (code "\\" ∷ code "x" ∷ x ∷ y ∷ r) r (16 * m + n)
  -- `\x` and one hexadecimal digit
  hex_one : {x m : ℕ} {r : List ℕ} → Hex x m → Form (code "\\" ∷ code "x" ∷ x ∷ r) r m
  -- a backslash and any other byte, for that byte: a quote, a bracket or a backslash, but also a digit 8, or an `x`
  -- that no digit follows
  itself : {b : ℕ} {r : List ℕ} → ((c : ℕ) → Letter b c → ⊥) → ((n : ℕ) → Octal b n → ⊥) → Form (code "\\" ∷ b ∷ r) r b

-- The byte spelled at the front of a text. Of the forms that stand there the longest is taken, a rule of our own:
-- `\101` is one byte, `\400` is `\40` and then a `0`.
pub record Char (t r : List ℕ) (b : ℕ) : Type 0 where
  pub form : Form t r b
  pub longest : (s : List ℕ) (c : ℕ) → Form t s c → length r ≤ length s

-- The text spells no byte at its front: it is empty, or a backslash alone.
abbrev pub SpellsNone : List ℕ → Type 0
SpellsNone [] = Unit {0}
SpellsNone (b ∷ []) = b ≡ code "\\"
SpellsNone (b ∷ c ∷ cs) = ⊥

-- the bytes that a whole text spells, one after the other
pub data Chars : List ℕ → List ℕ → Type 0 where
  no_chars : Chars [] []
  more_chars : {t r bs : List ℕ} {b : ℕ} → Char t r b → Chars r bs → Chars t (b ∷ bs)

-- a text in which each backslash has the byte that it escapes: no backslash ends it alone
pub data Paired : List ℕ → Type 0 where
  paired_end : Paired []
  paired_escape : {b : ℕ} {bs : List ℕ} → Paired bs → Paired (code "\\" ∷ b ∷ bs)
  paired_plain : {b : ℕ} {bs : List ℕ} → b ≢ code "\\" → Paired bs → Paired (b ∷ bs)
