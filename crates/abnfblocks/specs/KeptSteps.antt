-- What the lines so far leave, line by line.
use Rattle.std.specs.Prelude.{◌-◌, Bool, true, false, List, [], ◌∷◌, ◌++◌, length, take, if◌then◌else◌}
use Rattle.std.specs.List.{suffix_len}
use Rattle.abnfblocks.specs.TextLines.{NumberedLine}
use Rattle.abnfblocks.specs.declared.rfctext.before.Before.{Before}
use Rattle.abnfblocks.specs.declared.rfctext.before.Before.TheVariants.{Text, Mark, Head}
use Rattle.abnfblocks.specs.declared.rfctext.line_kind.LineKind.{LineKind}
use Rattle.abnfblocks.specs.declared.rfctext.line_kind.LineKind.TheVariants.{Blank, Feed, Foot, Dated, Other}

abbrev pub is_blank_kind : LineKind → Bool
is_blank_kind Blank = true
is_blank_kind Feed = false
is_blank_kind Foot = false
is_blank_kind Dated = false
is_blank_kind Other = false

abbrev pub is_mark_kind : LineKind → Bool
is_mark_kind Blank = false
is_mark_kind Feed = true
is_mark_kind Foot = true
is_mark_kind Dated = false
is_mark_kind Other = false

-- whether such a line goes, whatever follows it
abbrev pub goes_after : Before → LineKind → Bool
goes_after before Feed = true
goes_after before Foot = true
goes_after Mark Dated = true
goes_after Text Dated = false
goes_after Head Dated = false
goes_after Text Blank = false
goes_after Mark Blank = true
goes_after Head Blank = true
goes_after before Other = false

-- what stands nearest before the next line
abbrev pub next_after : Before → LineKind → Before
next_after before Feed = Mark
next_after before Foot = Mark
next_after before Blank = before
next_after Mark Dated = Head
next_after Text Dated = Text
next_after Head Dated = Text
next_after before Other = Text

-- the list without the blank lines that end it
abbrev pub cut_blanks : List NumberedLine → List NumberedLine
cut_blanks lines = take (length lines - suffix_len (λ line. is_blank_kind line.kind) lines) lines

-- what is left after one more line
abbrev pub after_line : Before → List NumberedLine → NumberedLine → List NumberedLine
after_line before kept line = if is_mark_kind line.kind then cut_blanks kept
    else if goes_after before line.kind then kept else kept ++ line ∷ []
