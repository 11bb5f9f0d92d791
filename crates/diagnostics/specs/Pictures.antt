-- A line with a caret below a byte.
use Prim.Native.Char.{code}
use Rattle.std.specs.Prelude.{ℕ, ◌+◌, ◌-◌, nat_lt, min, List, ◌++◌, length, take, drop, replicate, codes}
use Rattle.std.specs.Prelude.{decimal}
use Rattle.ruletable.specs.declared.lines.LineRule.{LineRule}
use Rattle.diagnostics.specs.LinesAround.{bytes_before, line_text}
use Rattle.diagnostics.specs.ShownBytes.{shown, dots}

-- The first of the 72 bytes of the line that are shown: 36 stand before the position, but at the line's ends.
abbrev pub window_start : ℕ → ℕ → ℕ
window_start size position = min (position - 36) (size - 72)

-- what is shown before the position: the bytes that begin the window, after dots where it is not the line's start
abbrev pub left_part : List ℕ → ℕ → List ℕ
left_part line position =
    let start = window_start (length line) position in
    dots (nat_lt 0 start) ++ shown (take (position - start) (drop start line))

-- what is shown from the position on
abbrev pub right_part : List ℕ → ℕ → List ℕ
right_part line position =
    let end = window_start (length line) position + 72 in
    shown (take (end - position) (drop position line)) ++ dots (nat_lt end (length line))

-- both lines, after two spaces
abbrev pub picture : List ℕ → ℕ → List ℕ
picture line position =
    codes "  " ++ (left_part line position ++ (right_part line position
    ++ (codes "\n  " ++ (replicate (length (left_part line position)) (code " ") ++ codes "^\n"))))

-- the position at an offset of a text: its picture, and its column, which counts bytes from 1
abbrev pub position_reported : LineRule → List ℕ → ℕ → List ℕ
position_reported rule text offset =
    let before = bytes_before rule (take offset text) in
    picture (line_text rule text offset) before ++ (codes "  column " ++ (decimal (before + 1) ++ codes ": "))
