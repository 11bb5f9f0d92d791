-- Escapes and classes as peg(1) grammars write them.
use Rattle.std.proofs.Common.{◌≡◌, ◌≢◌, ℕ, true, false, List, [], ◌∷◌, refl, arith, inl, inr, codes}
use Rattle.std.proofs.lemmas.Bool.Decides.{nat_tests}
use Rattle.pegread.specs.Chars.{octal_digit, hex_digit, hex_upper, digit_first, letter_e, letter_n, Char, Chars}
use Rattle.pegread.specs.Chars.{no_chars, more_chars}
use Rattle.pegread.specs.Literals.{SpellsBytes}
use Rattle.pegread.specs.Classes.{GoesOn, Item, item_char, item_range, Ranges, no_items, more_items, in_ranges}
use Rattle.pegread.specs.Classes.{bytes_in, complement, SpellsSet, positive, negative}
use Rattle.pegread.proofs.CharFormLemmas.{no-octal, no-hex, no_digit-empty, no_digit-here, char-plain, char-letter}
use Rattle.pegread.proofs.CharFormLemmas.{char-itself, char-x, char-one_hex, char-two_hex, char-one_octal}
use Rattle.pegread.proofs.CharFormLemmas.{char-two_octal, char-three_octal}
use Rattle.pegread.proofs.CharFrontLemmas.{no-letter}

module _ where
  escape-letter : Char (codes "\\e") [] 27
  escape-letter = char-letter letter_e

  three_octal : Char (codes "\\1012") (codes "2") 65
  three_octal = char-three_octal (octal_digit {d = 1} (omega arith)) (omega arith)
      (digit_first (octal_digit {d = 0} (omega arith))) (digit_first (octal_digit {d = 1} (omega arith)))

  greatest_octal : Char (codes "\\377") [] 255
  greatest_octal = char-three_octal (octal_digit {d = 3} (omega arith)) (omega arith)
      (digit_first (octal_digit {d = 7} (omega arith))) (digit_first (octal_digit {d = 7} (omega arith)))

  -- no number is above 255: `\40` and then `0`
  two_octal : Chars (codes "\\400") (32 ∷ 48 ∷ [])
  two_octal = more_chars (char-two_octal (octal_digit {d = 4} (omega arith))
      (digit_first (octal_digit {d = 0} (omega arith))) (inl (omega arith)))
      (more_chars (char-plain (omega arith)) no_chars)

  one_octal : Chars (codes "\\08") (0 ∷ 56 ∷ [])
  one_octal = more_chars (char-one_octal (octal_digit {d = 0} (omega arith))
      (no_digit-here (no-octal 56 (inr (omega arith))))) (more_chars (char-plain (omega arith)) no_chars)

  -- 8 is no octal digit
  no_octal : Char (codes "\\8") [] 56
  no_octal = char-itself (no-letter 56 (record {
    bell = omega arith;
    backspace = omega arith;
    escape = omega arith;
    form_feed = omega arith;
    line_feed = omega arith;
    carriage_return = omega arith;
    tab = omega arith;
    vertical_tab =
        omega arith;
  })) (record { octal = no-octal 56 (inr (omega arith)); hex = omega arith })

  two_hex : Char (codes "\\xF0") [] 240
  two_hex = char-two_hex (digit_first (hex_upper {d = 5} (omega arith))) (digit_first (hex_digit {d = 0} (omega arith)))

  -- `g` is no hexadecimal digit
  one_hex : Chars (codes "\\x4g") (4 ∷ 103 ∷ [])
  one_hex = more_chars (char-one_hex (digit_first (hex_digit {d = 4} (omega arith)))
      (no_digit-here (no-hex 103 (inr (omega arith)) (inr (omega arith)) (inr (omega arith)))))
      (more_chars (char-plain (omega arith)) no_chars)

  -- an `x` that no digit follows
  no_hex : Char (codes "\\x") [] 120
  no_hex = char-x no_digit-empty

  newline-literal : SpellsBytes (codes "'\\n'") (10 ∷ [])
  newline-literal =
      record { mark = 39; inside = codes "\\n"; cut = refl; chars = more_chars (char-letter letter_n) no_chars }

module _ where
  -- one character, as it is
  plain-item : {b : ℕ} {r : List ℕ} → b ≢ 92 → (GoesOn r → ⊥) → Item (b ∷ r) r b b
  plain-item h n = item_char (char-plain h) n

  -- a range from one character to another
  plain-range : {a b : ℕ} {r : List ℕ} → a ≢ 92 → b ≢ 92 → Item (a ∷ 45 ∷ b ∷ r) r a b
  plain-range h k = item_range (char-plain h) (char-plain k)

  -- after a range, a `-` is one character
  dash_after_range : Ranges (codes "a-c-e") ((97, 99) ∷ (45, 45) ∷ (101, 101) ∷ [])
  dash_after_range = more_items (plain-range (omega arith) (omega arith))
      (more_items (plain-item (omega arith) (λ g. g)) (more_items (plain-item (omega arith) (λ g. g)) no_items))

  -- at the end too
  dash_at_end : Ranges (codes "a-") ((97, 97) ∷ (45, 45) ∷ [])
  dash_at_end = more_items (plain-item (omega arith) (λ g. g)) (more_items (plain-item (omega arith) (λ g. g)) no_items)

  -- and at the start
  dash_at_start : Ranges (codes "-a") ((45, 45) ∷ (97, 97) ∷ [])
  dash_at_start =
      more_items (plain-item (omega arith) (λ g. g)) (more_items (plain-item (omega arith) (λ g. g)) no_items)

  dash_first : Ranges (codes "--a") ((45, 97) ∷ [])
  dash_first = more_items (plain-range (omega arith) (omega arith)) no_items

  dash_last : Ranges (codes "+--") ((43, 45) ∷ [])
  dash_last = more_items (plain-range (omega arith) (omega arith)) no_items

  -- a range whose first exceeds its last has no number
  reversed-empty : (b : ℕ) → in_ranges ((97, 93) ∷ []) b ≡ false
  reversed-empty b = grind (arith, nat_tests)

  every-byte : SpellsSet (codes "[^]") (complement (in_ranges []))
  every-byte = negative {xs = []} _ refl no_items (λ b. refl)

  none_at_all : SpellsSet (codes "[]") (bytes_in (in_ranges []))
  none_at_all = positive {inside = []} {xs = []} _ refl tt no_items (λ b. refl)

  -- a `^` that doesn't follow the bracket is one character
  hat_after : SpellsSet (codes "[a^]") (bytes_in (in_ranges ((97, 97) ∷ (94, 94) ∷ [])))
  hat_after = positive {inside = codes "a^"} _ refl (omega arith)
      (more_items (plain-item (omega arith) (λ g. g)) (more_items (plain-item (omega arith) (λ g. g)) no_items))
      (λ b. refl)

  numbers_in : (bytes_in (in_ranges ((97, 97) ∷ (94, 94) ∷ [])) 94 ≡ true)
      × (bytes_in (in_ranges ((97, 97) ∷ (94, 94) ∷ [])) 95 ≡ false) × (complement (in_ranges []) 255 ≡ true)
      × (complement (in_ranges []) 256 ≡ false)
  numbers_in = (refl, refl, refl, refl)
