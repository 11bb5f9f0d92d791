-- Which words stand for the number of a limit. `clap` gets that number in place of them, and the contracts of the
-- programs speak of the words as `clap` gets them.
use Prim.Native.Char.{code}
use Rattle.std.specs.Prelude.{◌≡◌, ◌≤◌, ◌*◌, ◌-◌, ◌==◌, ◌⊎◌, ℕ, List, [], ◌∷◌, ◌++◌, codes, decimal, length}
use Rattle.std.specs.Prelude.{if◌then◌else◌, slice_index, take}
use Rattle.std.specs.Str.{bytes_eq}
use Rattle.std.specs.Str.Parse.{IsNumeral, digits_value, without_leading_plus}
use Rattle.clap.specs.Words.{Text}
use Rattle.cli.specs.declared.sizes.Role.{Role}
use Rattle.cli.specs.declared.sizes.Role.TheVariants.{Ended, Free, Name, Value}

-- how many bytes a letter stands for; 0 where it is the letter of no unit
abbrev pub unit_of : ℕ → ℕ
unit_of letter = if letter == code "k" then 1024 else (if letter == code "K" then 1024 else
    (if letter == code "M" then 1048576 else 0))

-- the number before the last letter of a text
abbrev pub number_in : Text → Text
number_in text = without_leading_plus (take (length text - 1) text)

-- the text is a size of n bytes: a number and the letter of a unit, from 1 to 16,777,216 bytes in all
abbrev pub IsSize : Text → ℕ → Type 0
IsSize text n = IsNumeral 10 (number_in text)
    × (n ≡ digits_value 10 (number_in text) * unit_of (slice_index text (length text - 1)))
    × (1 ≤ n) × (n ≤ 16777216)

-- no size has this text
abbrev pub IsNoSize : Text → Type 0
IsNoSize text = (n : ℕ) → IsSize text n → ⊥

-- new is the number of bytes where a text is a size, and else the text
abbrev pub IsPlain : Text → Text → Type 0
IsPlain text new = ((n : ℕ) × IsSize text n × (new ≡ decimal n)) ⊎ (IsNoSize text × (new ≡ text))

-- front comes before the value of a limit in a word of this role
abbrev pub IsWordFront : Role → Text → Type 0
IsWordFront Value front = front ≡ []
IsWordFront Free front = (front ≡ codes "-l") ⊎ (front ≡ codes "--limit=")
IsWordFront Name front = ⊥
IsWordFront Ended front = ⊥

-- the word is this front and the value of a limit
abbrev pub IsSplitWord : Role → Text → Text → Text → Type 0
IsSplitWord role word front value = IsWordFront role front × (word ≡ front ++ value)

-- the word has no value of a limit
abbrev pub IsUnsplit : Role → Text → Type 0
IsUnsplit role word = (front value : Text) → IsSplitWord role word front value → ⊥

-- new is a word of this role with its size as a number; it is the word where it has no size
pub data IsPlainWord (role : Role) : Text → Text → Type 0 where
  valued : (word front value new : Text) → IsSplitWord role word front value → IsPlain value new
      → IsPlainWord role word (front ++ new)
  other : (word : Text) → IsUnsplit role word → IsPlainWord role word word

-- the role of the word after a word
abbrev pub role_after : Role → Text → Role
role_after Name word = Free
role_after Value word = Free
role_after Ended word = Ended
role_after Free word = if bytes_eq word (codes "--") then Ended else (if bytes_eq word (codes "-l") then Value else
    (if bytes_eq word (codes "--limit") then Value else Free))

-- new are the words with each size as a number, and role is that of the word after them
pub data ArePlain : Role → List Text → List Text → Type 0 where
  none : ArePlain Name [] []
  more : (role : Role) (words plain : List Text) (word new : Text) → ArePlain role words plain
      → IsPlainWord role word new → ArePlain (role_after role word) (words ++ word ∷ []) (plain ++ new ∷ [])
