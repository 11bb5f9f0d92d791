-- Tags that one line opens and a later one closes (XML 1.0, section 3.1).
use Prim.Native.Char.{code}
use Rattle.std.specs.Prelude.{ℕ, ◌+◌, ◌==◌, ◌||◌, ◌&&◌, not, bytes_eq, Bool, false, List, [], ◌∷◌, drop, codes}
use Rattle.std.specs.Prelude.{if◌then◌else◌}
use Rattle.std.specs.List.{list_any, prefix_len}
use Rattle.abnfblocks.specs.RuleCuts.{is_empty_line}
use Rattle.abnfblocks.specs.RuleLines.{begins_by, begins_letter, rest_after_margin}
use Rattle.abnfblocks.specs.TextLines.{NumberedLine}

-- the line has `>`
abbrev pub has_end : List ℕ → Bool
has_end line = list_any (λ b. b == code ">") line

-- `<` and a letter or `?` begin the text
abbrev pub begins_tag : List ℕ → Bool
begins_tag [] = false
begins_tag (b ∷ bytes) = (b == code "<") && (begins_letter bytes || begins_by (code "?") bytes)

-- a tag begins the line after its margin, and does not end on it
abbrev pub opens_tag : List ℕ → Bool
opens_tag line = begins_tag (rest_after_margin line) && not (has_end line)

-- A tag goes on over the line: it has no `>`, is not blank, and is not masked.
abbrev pub goes_on_tag : NumberedLine → Bool
goes_on_tag line = not (has_end line.bytes || is_empty_line line || bytes_eq line.bytes (codes "<"))

-- the first of the lines has `>`
abbrev pub has_end_first : List NumberedLine → Bool
has_end_first [] = false
has_end_first (line ∷ lines) = has_end line.bytes

-- how many lines a tag takes that goes on with the first of these, up to the one with `>`; or 0, if a blank or masked
-- line or the end of the text comes first
abbrev pub tag_left : List NumberedLine → ℕ
tag_left lines =
    let inside = prefix_len goes_on_tag lines in
    if has_end_first (drop inside lines) then inside + 1 else 0

-- how many lines the tag has that the first line opens and a later one closes; or 0
abbrev pub tag_size : List NumberedLine → ℕ
tag_size [] = 0
tag_size (line ∷ lines) = if opens_tag line.bytes && not (tag_left lines == 0) then tag_left lines + 1 else 0
