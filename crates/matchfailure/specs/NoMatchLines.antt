-- The lines that report where a unit fails farthest, and what was expected there.
use Rattle.std.specs.Prelude.{ℕ, zero, suc, ◌+◌, ◌-◌, ◌==◌, Bool, true, false, List, [], ◌∷◌, ◌++◌, length, slice_get}
use Rattle.std.specs.Prelude.{take, codes, decimal, if◌then◌else◌}
use Rattle.std.specs.List.{flat_map}
use Rattle.matchfailure.specs.declared.farthest.visit.Visit.{Visit}
use Rattle.pegnodes.specs.Nodes.{Shape}
use Rattle.pegread.specs.Pattern.{Rule}
use Rattle.diagnostics.specs.LinesAround.{bytes_before, line_text}
use Rattle.diagnostics.specs.Pictures.{picture}
use Rattle.diagnostics.specs.ShownBytes.{cut}
use Rattle.ruletable.specs.declared.lines.LineRule.TheVariants.{Lf}
use Rattle.matchfailure.specs.declared.explain.position.TextPosition.{TextPosition}
use Rattle.matchfailure.specs.NodeTexts.{leaf_text, name_of_rule, rule_of_node}

-- that no byte stands there
abbrev pub end_shown : Bool → List ℕ
end_shown is_end = if is_end then codes ", the end of the input" else []

-- where it fails, and whether that is the input's end, in the unit that begins after so many bytes
abbrev pub failing_position : TextPosition → Bool → ℕ → List ℕ
failing_position at is_end unit = codes "  byte " ++ (decimal at.byte ++ (codes ", line " ++ (decimal at.line
    ++ (codes ", column " ++ (decimal at.column ++ (end_shown is_end ++ (codes ", in the unit at byte "
    ++ (decimal unit ++ codes "\n"))))))))

-- a line with a caret below the byte after so many; an empty line has no picture
abbrev pub picture_if_any : List ℕ → ℕ → List ℕ
picture_if_any [] before = []
picture_if_any (b ∷ line) before = picture (b ∷ line) before

-- the line of that byte of a text, with a caret below the byte
abbrev pub failing_picture : List ℕ → ℕ → List ℕ
failing_picture text position = picture_if_any (line_text Lf text position) (bytes_before Lf (take position text))

-- Where an expression begins that fails at a position, if it does not begin there. Both count from the first byte of
-- the unit, which begins after so many bytes.
abbrev pub begun_at : ℕ → ℕ → ℕ → List ℕ
begun_at unit position begin = if begin == position then [] else codes " from byte " ++ decimal (unit + begin)

-- a line of what was expected: the expression, where it begins, and its rule
abbrev pub expected_line : List Rule → List Shape → List ℕ → ℕ → ℕ → Visit → List ℕ
expected_line rules nodes bodies unit position v = codes "  expected " ++ (cut (leaf_text (slice_get nodes v.node))
    ++ (begun_at unit position v.position ++ (codes " in " ++ (cut (name_of_rule rules (rule_of_node bodies v.node))
    ++ codes "\n"))))

-- how many more are expected, if any are
abbrev pub more_expected : ℕ → List ℕ
more_expected zero = []
more_expected (suc n) = codes "  and " ++ (decimal (suc n) ++ codes " more\n")

-- a line of each of the first that are reported, and how many more there are
abbrev pub expected_lines : List Rule → List Shape → List ℕ → ℕ → ℕ → List Visit → List ℕ
expected_lines rules nodes bodies unit position reported =
    flat_map (expected_line rules nodes bodies unit position) (take 16 reported) ++ more_expected (length reported - 16)

-- The lines of a failure at a position of a text, which is what is seen of a unit from its first byte on. The unit
-- begins after so many bytes, and the failing byte stands there in the input. A comparison that fails after the last
-- byte that is seen looked for one more, so it fails at the input's end.
abbrev pub failure_lines : List Rule → List Shape → List ℕ → List ℕ → TextPosition → ℕ → ℕ → List Visit → List ℕ
failure_lines rules nodes bodies text at unit position reported =
    failing_position at (position == length text) unit
    ++ (failing_picture text position ++ expected_lines rules nodes bodies unit position reported)

-- the line where no comparison fails outside of `!`
abbrev pub nothing_failed : List ℕ
nothing_failed = codes "  no comparison failed outside of \"!\"\n"

-- the line of a unit that matches and takes no byte, where the start rule has this name
abbrev pub no_byte_taken : List ℕ → List ℕ
no_byte_taken name = codes "  rule '" ++ (cut name ++ codes "' matched and took no byte\n")

-- The first line, before the lines of a failure, of which there are none if no comparison fails. It says that the last
-- unit took no byte, if it did so.
abbrev pub opening : Bool → List ℕ → List ℕ → List ℕ
opening true name lines = no_byte_taken name
opening false name [] = nothing_failed
opening false name (b ∷ lines) = []

-- the lines of a unit that would look at too many bytes: where it begins
abbrev pub long_unit_lines : TextPosition → List ℕ
long_unit_lines at = codes "  the unit begins on line " ++ (decimal at.line ++ (codes ", column "
    ++ (decimal at.column ++ codes "\n  -l allows at most 16777216\n")))
