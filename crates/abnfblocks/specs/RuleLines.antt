-- What a line begins with.
use Prim.Native.Char.{code}
use Rattle.std.specs.Prelude.{ℕ, ◌==◌, ◌||◌, ◌&&◌, Bool, false, List, [], ◌∷◌, drop}
use Rattle.std.specs.Char.{is_ascii_alphabetic}
use Rattle.std.specs.List.{prefix_len}
use Rattle.abnfread.specs.AbnfSlices.{continues_name}

-- a space or a tab
abbrev pub is_margin : ℕ → Bool
is_margin b = (b == code " ") || (b == code "\t")

-- how many spaces and tabs begin the line
abbrev pub margin_of : List ℕ → ℕ
margin_of line = prefix_len is_margin line

abbrev pub rest_after_margin : List ℕ → List ℕ
rest_after_margin line = drop (margin_of line) line

-- what follows the bytes of a name
abbrev pub rest_after_name : List ℕ → List ℕ
rest_after_name text = drop (prefix_len continues_name text) text

abbrev pub begins_by : ℕ → List ℕ → Bool
begins_by byte [] = false
begins_by byte (b ∷ bytes) = b == byte

abbrev pub begins_letter : List ℕ → Bool
begins_letter [] = false
begins_letter (b ∷ bytes) = is_ascii_alphabetic b

-- after its margin the line is a comment
abbrev pub begins_comment : List ℕ → Bool
begins_comment line = begins_by (code ";") (rest_after_margin line)

-- after its margin the line begins with `/`
abbrev pub begins_slash : List ℕ → Bool
begins_slash line = begins_by (code "/") (rest_after_margin line)

-- or with `/`, `|`, `)` or `]`
abbrev pub begins_inner : List ℕ → Bool
begins_inner line = begins_slash line || begins_by (code "|") (rest_after_margin line)
    || begins_by (code ")") (rest_after_margin line) || begins_by (code "]") (rest_after_margin line)

-- after its margin stand a rule's name and `=`, perhaps with spaces between
abbrev pub begins_rule_line : List ℕ → Bool
begins_rule_line line =
    begins_letter (rest_after_margin line) && begins_by (code "=") (rest_after_margin
    (rest_after_name (rest_after_margin line)))
