-- Lines of a text in ABNF that begin a rule by their form, and the next one after a fault. Own.
use Prim.Native.Char.{code}
use Rattle.std.specs.Prelude.{◌≡◌, ℕ, ◌+◌, ◌-◌, ◌==◌, ◌||◌, ◌&&◌, nat_le, not, Bool, false, List, []}
use Rattle.std.specs.Prelude.{◌∷◌, Option, drop, length, if◌then◌else◌, slice_index}
use Rattle.std.specs.Option.{option_map_or}
use Rattle.diagnostics.specs.LaterFaults.{IsFirstAt}
use Rattle.abnfread.specs.MarkedTokens.{Marked, AreMarked}
use Rattle.abnfexplain.specs.AbnfDecisions.{first_marked}
use Rattle.abnfexplain.specs.AbnfExplained.{indent}
use Rattle.abnfexplain.specs.AbnfMistakes.{bytes_after_blanks}

-- a mark of ABNF that ends a word
abbrev pub is_mark : ℕ → Bool
is_mark b = (b == code ";") || (b == code "\"") || (b == code "<") || (b == code ">") || (b == code "=")
    || (b == code "/") || (b == code "(") || (b == code ")") || (b == code "[") || (b == code "]") || (b == code ":")

-- what may stand in a word: all but blanks, CR, LF and marks
abbrev pub is_in_word : ℕ → Bool
is_in_word b = not ((b == code " ") || (b == code "\t") || (b == code "\r") || (b == code "\n") || is_mark b)

-- the text after the word before it
abbrev pub past_word : List ℕ → List ℕ
past_word [] = []
past_word (b ∷ bs) = if is_in_word b then past_word bs else b ∷ bs

-- the text after the colon before it, if there is one
abbrev pub past_colon : List ℕ → List ℕ
past_colon [] = []
past_colon (b ∷ bs) = if b == code ":" then bs else b ∷ bs

abbrev pub begins_word : List ℕ → Bool
begins_word [] = false
begins_word (b ∷ bs) = is_in_word b

abbrev pub begins_body : List ℕ → Bool
begins_body [] = false
begins_body (b ∷ bs) = b == code "="

-- the text begins with a word, blanks, at most two colons and `=`
abbrev pub has_form : List ℕ → Bool
has_form text = begins_word text && begins_body (past_colon (past_colon (bytes_after_blanks (past_word text))))

-- a line begins at the position
abbrev pub begins_line : List ℕ → ℕ → Bool
begins_line text at = (at == 0) || (slice_index text (at - 1) == code "\n")

-- how many blanks stand there
abbrev pub blanks_at : List ℕ → ℕ → ℕ
blanks_at text at = length (drop at text) - length (bytes_after_blanks (drop at text))

-- a line begins there, and it begins a rule by its form
abbrev pub is_rule_line : List ℕ → ℕ → Bool
is_rule_line text at = begins_line text at && has_form (bytes_after_blanks (drop at text))

-- such a line has that many blanks, and its word stands so many bytes after another position, or further on
abbrev pub goes_next : List ℕ → ℕ → ℕ → ℕ → ℕ → Bool
goes_next text margin start ahead at = is_rule_line text at
    && ((blanks_at text at == margin) && nat_le ahead (at - start + blanks_at text at))

-- how many bytes stand before the text's first token on its line: blanks
pub record IsMargin (text : List ℕ) (margin : ℕ) : Type 0 where
  pub all : List Marked
  pub are_tokens : AreMarked text all
  pub is : margin ≡ option_map_or (indent text) (first_marked all) 0

-- The next line after a reading from `start` on. It has the blanks of the first token's line, so what stands from it on
-- is a text with the same margin (RFC 5234, section 2.2). Its word stands `ahead` bytes after `start`, or further on.
pub record IsNext (text : List ℕ) (start ahead : ℕ) (next : Option ℕ) : Type 0 where
  pub margin : ℕ
  pub is_margin : IsMargin text margin
  pub is_next : IsFirstAt (goes_next text margin start ahead) (start + 1) (length text) next
