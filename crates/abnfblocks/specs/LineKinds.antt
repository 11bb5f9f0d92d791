-- What a line of a text looks like.
use Prim.Native.Char.{code}
use Rattle.std.specs.Prelude.{ℕ, ◌-◌, ◌==◌, ◌||◌, ◌&&◌, not, bytes_eq, Bool, false, List, [], ◌∷◌, length, take, drop}
use Rattle.std.specs.Prelude.{Option, None, Some, codes, if◌then◌else◌}
use Rattle.std.specs.Char.{is_ascii_digit}
use Rattle.std.specs.List.{list_all, suffix_len}
use Rattle.std.specs.Option.{option_and_then}
use Rattle.abnfblocks.specs.declared.rfctext.line_kind.LineKind.{LineKind}
use Rattle.abnfblocks.specs.declared.rfctext.line_kind.LineKind.TheVariants.{Blank, Feed, Foot, Dated, Other}

-- a form feed
abbrev pub is_feed : ℕ → Bool
is_feed b = b == 12

-- a space, a tab or a form feed
abbrev pub is_blank : ℕ → Bool
is_blank b = (b == code " ") || (b == code "\t") || is_feed b

abbrev pub is_blank_line : List ℕ → Bool
is_blank_line line = list_all is_blank line

-- the line is indented
abbrev pub begins_blank : List ℕ → Bool
begins_blank [] = false
begins_blank (b ∷ bytes) = is_blank b

-- the line without the blanks that end it
abbrev pub bare_end : List ℕ → List ℕ
bare_end line = take (length line - suffix_len is_blank line) line

-- what stands before that end, if the text has it
abbrev pub strip_end : List ℕ → List ℕ → Option (List ℕ)
strip_end text end =
    let front = length text - length end in
    if bytes_eq (drop front text) end then Some (take front text) else None

-- the text without the digits that end it
abbrev pub before_digits : List ℕ → List ℕ
before_digits text = take (length text - suffix_len is_ascii_digit text) text

-- what stands before `[Page ` where digits end the text
abbrev pub before_number : List ℕ → Option (List ℕ)
before_number text = if suffix_len is_ascii_digit text == 0 then None
    else strip_end (before_digits text) (codes "[Page ")

-- what stands before `[Page N]`, if the line ends with that
abbrev pub before_page : List ℕ → Option (List ℕ)
before_page line = option_and_then before_number (strip_end (bare_end line) (codes "]"))

-- A foot ends with `[Page N]`. It is not indented, or nothing else stands in it, so that no indented rule with such a
-- comment is one.
abbrev pub is_page_foot : List ℕ → Option (List ℕ) → Bool
is_page_foot line None = false
is_page_foot line (Some front) = not (begins_blank line) || is_blank_line front

abbrev pub is_foot : List ℕ → Bool
is_foot line = is_page_foot line (before_page line)

-- A head is not indented, and ends with a year: four digits, and a blank before them.
abbrev pub is_dated : List ℕ → Bool
is_dated line =
    let bare = bare_end line in
    let blanks = suffix_len is_blank (before_digits bare) in
    not (begins_blank line) && (suffix_len is_ascii_digit bare == 4) && not (blanks == 0)

-- a line with these bytes after its form feeds, if it has some
abbrev pub kind_of : Bool → List ℕ → LineKind
kind_of has_feed line = if is_blank_line line then (if has_feed then Feed else Blank) else if is_foot line then Foot
    else if not (is_dated line) then Other else if has_feed then Feed else Dated
