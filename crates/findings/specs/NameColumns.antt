-- Where names stand in the lines of a text.
use Prim.Native.Char.{code}
use Rattle.std.specs.Prelude.{ℕ, ◌+◌, ◌-◌, ◌==◌, ◌||◌, ◌&&◌, not, nat_lt, Bool, true, false, List, [], ◌∷◌, ◌++◌}
use Rattle.std.specs.Prelude.{Option, Some, None, if◌then◌else◌, take, drop, length, slice_get, unwrap_or}
use Rattle.std.specs.Char.{is_ascii_alphanumeric, is_ascii_digit}
use Rattle.findings.specs.declared.finding.Location.{Location}
use Rattle.ruletable.specs.Lines.{ends_line}
use Rattle.ruletable.specs.Rules.{same_name}
use Rattle.ruletable.specs.declared.lines.LineRule.{LineRule}
use Rattle.ruletable.specs.declared.table.NameCase.{NameCase}
use Rattle.ruletable.specs.declared.table.NameCase.TheVariants.{Exact, Fold}

-- the lines of a text, of which those bytes begin the first one
abbrev pub lines_continued : LineRule → List ℕ → List ℕ → List (List ℕ)
lines_continued rule line [] = line ∷ []
lines_continued rule line (b ∷ bytes) = if ends_line rule b bytes then line ∷ lines_continued rule [] bytes
    else lines_continued rule (line ++ b ∷ []) bytes

-- the lines of a text
abbrev pub lines_in : LineRule → List ℕ → List (List ℕ)
lines_in rule text = lines_continued rule [] text

-- the line of that number, from 1; no bytes where there is none
abbrev pub line_numbered : List (List ℕ) → ℕ → List ℕ
line_numbered lines n = unwrap_or (slice_get lines (n - 1)) []

-- the byte belongs to names, or to quotes
abbrev pub is_word_byte : ℕ → Bool
is_word_byte b = is_ascii_alphanumeric b || (b == code "-") || (b == code "_") || (b == code "\"") || (b == code "'")

-- no name goes on with these bytes
abbrev pub is_end_of_word : List ℕ → Bool
is_end_of_word [] = true
is_end_of_word (b ∷ bytes) = not (is_word_byte b)

-- the bytes begin with the name, which ends there
abbrev pub begins_with_word : NameCase → List ℕ → List ℕ → Bool
begins_with_word names name bytes = if nat_lt (length bytes) (length name) then false
    else (same_name names (take (length name) bytes) name && is_end_of_word (drop (length name) bytes))

-- a name may begin after the byte, before which one may begin or not; in ABNF digits repeat the element after them
abbrev pub may_begin_after : NameCase → Bool → ℕ → Bool
may_begin_after Exact free b = not (is_word_byte b)
may_begin_after Fold free b = not (is_word_byte b) || (free && is_ascii_digit b)

-- Names and first words are looked for before this column, so that a long line costs no more than a short one.
abbrev pub max_column : ℕ
max_column = 4096

-- the column at which the name stands first as a word; the bytes begin at that column, where a word may begin or not
abbrev pub word_from : NameCase → List ℕ → ℕ → Bool → List ℕ → Option ℕ
word_from names name column free [] = None
word_from names name column free (b ∷ bytes) = if column == max_column then None else
    if free && begins_with_word names name (b ∷ bytes) then Some column
    else word_from names name (column + 1) (may_begin_after names free b) bytes

-- the column of the first byte that is no blank; the bytes begin at that column
abbrev pub blanks_from : ℕ → List ℕ → ℕ
blanks_from column [] = column
blanks_from column (b ∷ bytes) = if column == max_column then column else
    if not (b == code " ") && not (b == code "\t") then column else blanks_from (column + 1) bytes

-- the column of a name in a line: the first at which it stands as a word, or else that of the line's first word
abbrev pub column_of : NameCase → List ℕ → List ℕ → ℕ
column_of names line name = unwrap_or (word_from names name 1 true line) (blanks_from 1 line)

-- the position of a name in that line of a text
abbrev pub name_location : NameCase → List (List ℕ) → ℕ → List ℕ → Location
name_location names lines n name = record { line = n; column = column_of names (line_numbered lines n) name }
