-- The lines of a rule, and the cuts among them.
use Prim.Native.Char.{code}
use Rattle.std.specs.Prelude.{◌≡◌, ℕ, suc, ◌<◌, ◌≤◌, ◌-◌, ◌==◌, ◌||◌, ◌&&◌, nat_lt, min, not, Bool, true, false}
use Rattle.std.specs.Prelude.{List, [], ◌∷◌, ◌++◌, length, take, drop}
use Rattle.std.specs.List.{prefix_len, suffix_len, flat_map, zip}
use Rattle.abnfblocks.specs.KeptSteps.{is_blank_kind}
use Rattle.abnfblocks.specs.TextLines.{NumberedLine}
use Rattle.abnfblocks.specs.RuleLines.{margin_of, begins_comment, begins_inner, begins_rule_line, begins_slash}

abbrev pub is_empty_line : NumberedLine → Bool
is_empty_line line = is_blank_kind line.kind

-- the line begins a rule
abbrev pub opens_rule : NumberedLine → Bool
opens_rule line = begins_rule_line line.bytes

-- Whether a rule of that margin goes on with the second line, where the first one stands before it: with a blank line,
-- a comment, a line of a larger margin, and a line that begins with `/`, `|`, `)` or `]` after one that is not blank.
abbrev pub goes_on : ℕ → NumberedLine → NumberedLine → Bool
goes_on margin before line = is_empty_line line || begins_comment line.bytes || nat_lt margin (margin_of line.bytes)
    || (begins_inner line.bytes && not (is_empty_line before))

-- the line belongs to the rule of that margin: it begins no rule, and the rule goes on with it
abbrev pub belongs : ℕ → NumberedLine → NumberedLine → Bool
belongs margin before line = not (opens_rule line) && goes_on margin before line

-- how many of these lines belong to the rule whose last line so far is that one
abbrev pub more_lines : ℕ → NumberedLine → List NumberedLine → ℕ
more_lines margin before lines = prefix_len (λ p. belongs margin p.0 p.1) (zip (before ∷ lines) lines)

-- how many lines the rule has that the first of these begins: all up to the next one that does not belong to it
abbrev pub rule_size : List NumberedLine → ℕ
rule_size [] = 0
rule_size (line ∷ lines) = suc (more_lines (margin_of line.bytes) line lines)

-- and those lines
abbrev pub first_rule : List NumberedLine → List NumberedLine
first_rule lines = take (rule_size lines) lines

-- the first of these lines begins with `/` after its margin
abbrev pub slash_first : List NumberedLine → Bool
slash_first [] = false
slash_first (line ∷ lines) = begins_slash line.bytes

-- how many blank lines begin the list
abbrev pub blanks_first : List NumberedLine → ℕ
blanks_first lines = prefix_len is_empty_line lines

-- A rule can end before these lines: they are blank, or after at least one blank line stands one without `/`.
abbrev pub can_end : List NumberedLine → Bool
can_end rest = (blanks_first rest == length rest)
    || (nat_lt 0 (blanks_first rest) && not (slash_first (drop (blanks_first rest) rest)))

-- no blank line ends so many lines of a rule, and the rule can end there
abbrev pub ends_cut : List NumberedLine → ℕ → Bool
ends_cut rule n = (suffix_len is_empty_line (drop 1 (take n rule)) == 0) && can_end (drop n rule)

-- so many lines of a rule are a cut
pub record IsCut (rule : List NumberedLine) (n : ℕ) : Type 0 where
  pub some : 0 < n
  pub within : n ≤ length rule
  pub ends : ends_cut rule n ≡ true

-- how many lines a rule has up to the last one that is not blank
abbrev pub full_size : List NumberedLine → ℕ
full_size [] = 0
full_size (line ∷ lines) = suc (length lines - suffix_len is_empty_line lines)

-- the first line's margin
abbrev pub margin_at : List NumberedLine → ℕ
margin_at [] = 0
margin_at (line ∷ lines) = margin_of line.bytes

-- a line without that margin, or without its own where that is smaller; and LF
abbrev pub cut_line : ℕ → NumberedLine → List ℕ
cut_line margin line = drop (min margin (margin_of line.bytes)) line.bytes ++ code "\n" ∷ []

abbrev pub lines_text : ℕ → List NumberedLine → List ℕ
lines_text margin lines = flat_map (cut_line margin) lines

-- the text of so many lines of a rule, without its margin
abbrev pub cut_text : List NumberedLine → ℕ → List ℕ
cut_text rule n = lines_text (margin_at rule) (take n rule)
