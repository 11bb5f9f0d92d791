-- Words in hexadecimal digits, as test vectors have them.
use Prim.Native.Char.{code}
use Rattle.std.specs.Prelude.{ℕ, ◌%◌, ◌==◌, ◌||◌, ◌&&◌, nat_le, nat_lt, not, Bool, List, [], ◌∷◌, length, drop, take}
use Rattle.std.specs.Prelude.{if◌then◌else◌, bytes_eq, codes}
use Rattle.std.specs.Char.{is_ascii_digit, is_ascii_hexdigit}
use Rattle.std.specs.List.{list_all, list_any, prefix_len}

-- what stands between words: spaces, tabs, ends of lines, `;` and `,`
abbrev pub ends_word : ℕ → Bool
ends_word b = (b == code " ") || (b == code "\t") || (b == code "\n") || (b == code ";") || (b == code ",")

-- the byte stands in front of the first word
abbrev pub before_words : ℕ → List (List ℕ) → List (List ℕ)
before_words b [] = (b ∷ []) ∷ []
before_words b (word ∷ words) = (b ∷ word) ∷ words

-- the words of a text, perhaps empty ones
abbrev pub words_in : List ℕ → List (List ℕ)
words_in [] = [] ∷ []
words_in (b ∷ bs) = if ends_word b then [] ∷ words_in bs else before_words b (words_in bs)

-- how many bytes of a word begin the text
abbrev pub word_bytes : List ℕ → ℕ
word_bytes text = prefix_len (λ b. not (ends_word b)) text

-- `0x` and hexadecimal digits; or an even number of these, at least 8, one of them decimal
abbrev pub is_hex_word : List ℕ → Bool
is_hex_word word = if bytes_eq (take 2 word) (codes "0x") && nat_lt 2 (length word)
    then list_all is_ascii_hexdigit (drop 2 word)
    else nat_le 8 (length word) && (length word % 2 == 0) && list_all is_ascii_hexdigit word
    && list_any is_ascii_digit word

-- a word of the text is one of these
abbrev pub has_hex_word : List ℕ → Bool
has_hex_word text = list_any is_hex_word (words_in text)
