-- Fenced blocks of code (CommonMark 0.31, section 4.5), and their languages (RFC 7764, section 3).
use Prim.Native.Char.{code}
use Rattle.std.specs.Prelude.{ℕ, ◌+◌, ◌==◌, ◌||◌, ◌&&◌, nat_lt, not, bytes_eq, Bool, List, [], ◌∷◌, length, take}
use Rattle.std.specs.Prelude.{drop, codes, max, if◌then◌else◌}
use Rattle.std.specs.List.{list_all, list_any, prefix_len}
use Rattle.std.specs.Str.{str_eq_ignore_ascii_case}
use Rattle.abnfblocks.specs.LineKinds.{bare_end}
use Rattle.abnfblocks.specs.RuleLines.{begins_by, rest_after_margin, is_margin}
use Rattle.abnfblocks.specs.TextLines.{NumberedLine}

-- how many times that byte begins the text
abbrev pub byte_run : ℕ → List ℕ → ℕ
byte_run byte text = prefix_len (λ b. b == byte) text

-- the line without the spaces that begin it
abbrev pub after_spaces : List ℕ → List ℕ
after_spaces line = drop (byte_run (code " ") line) line

-- and without the fence of that character
abbrev pub after_fence : ℕ → List ℕ → List ℕ
after_fence mark line = drop (byte_run mark (after_spaces line)) (after_spaces line)

-- how long the fence of that character is with which the line begins: after at most three spaces at least three of it;
-- else 0
abbrev pub fence_length : ℕ → List ℕ → ℕ
fence_length mark line =
    let n = byte_run mark (after_spaces line) in
    if nat_lt (byte_run (code " ") line) 4 && nat_lt 2 n then n else 0

-- the same of a fence that opens a block: none of backticks has another one after it in its line
abbrev pub opening_length : ℕ → List ℕ → ℕ
opening_length mark line =
    if (mark == code "`") && list_any (λ b. b == code "`") (after_fence mark line) then 0 else fence_length mark line

-- and of one that closes a block: nothing but blanks follows it
abbrev pub closing_length : ℕ → List ℕ → ℕ
closing_length mark line = if list_all is_margin (after_fence mark line) then fence_length mark line else 0

-- how many of the lines stand before the first one that closes a fence of that character and length
abbrev pub lines_inside : ℕ → ℕ → List NumberedLine → ℕ
lines_inside mark size lines = prefix_len (λ line. nat_lt (closing_length mark line.bytes) size) lines

-- How many lines the block has that a fence of that character opens on the first line, with both fences: 0 if none
-- stands there, or if nothing closes it.
abbrev pub opened_size : ℕ → List NumberedLine → ℕ
opened_size mark [] = 0
opened_size mark (line ∷ lines) =
    let size = opening_length mark line.bytes in
    let inside = lines_inside mark size lines in
    if nat_lt 0 size && nat_lt inside (length lines) then inside + 2 else 0

-- the same of a fence of either character
abbrev pub fenced_size : List NumberedLine → ℕ
fenced_size lines = max (opened_size (code "`") lines) (opened_size (code "~") lines)

-- what follows the line's fence
abbrev pub information_of : List ℕ → List ℕ
information_of line = if nat_lt 0 (fence_length (code "`") line) then after_fence (code "`") line
    else after_fence (code "~") line

-- the first word of the text, up to a blank or that byte
abbrev pub first_word_of : ℕ → List ℕ → List ℕ
first_word_of end text = take (prefix_len (λ b. not (is_margin b || (b == end))) text) text

-- the first word in braces that begins with `.`, without that, where the first byte stands before the text; nothing if
-- there is none
abbrev pub class_of : ℕ → List ℕ → List ℕ
class_of before [] = []
class_of before (b ∷ bytes) = if is_margin before && (b == code ".") then first_word_of (code "}") bytes
    else if b == code "}" then [] else class_of b bytes

-- The language of a block, by the information that follows its first fence: its first word, up to a blank or `{`; if it
-- begins with `{`, the first word in the braces that begins with `.`.
abbrev pub language_of : List ℕ → List ℕ
language_of information =
    let text = rest_after_margin information in
    if begins_by (code "{") text then class_of (code " ") (drop 1 text) else first_word_of (code "{") text

-- a language in which ABNF is looked for
abbrev pub is_read_language : List ℕ → Bool
is_read_language language = (length language == 0) || str_eq_ignore_ascii_case language (codes "abnf")
    || str_eq_ignore_ascii_case language (codes "bnf") || str_eq_ignore_ascii_case language (codes "text")
    || str_eq_ignore_ascii_case language (codes "txt")

-- the block that such a line opens is in another language
abbrev pub hides_block : NumberedLine → Bool
hides_block line = not (is_read_language (language_of (information_of line.bytes)))

-- the line holds `%%%`, and perhaps blanks after it
abbrev pub is_title_fence : List ℕ → Bool
is_title_fence line = bytes_eq (bare_end line) (codes "%%%")

-- how many of the lines stand before the next such line
abbrev pub inside_title : List NumberedLine → ℕ
inside_title lines = prefix_len (λ line. not (is_title_fence line.bytes)) lines

-- how many lines the title block has that the first line opens, with both of its fences; or 0
abbrev pub title_size : List NumberedLine → ℕ
title_size [] = 0
title_size (line ∷ lines) =
    let inside = inside_title lines in
    if is_title_fence line.bytes && nat_lt inside (length lines) then inside + 2 else 0
