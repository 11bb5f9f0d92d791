-- The position after a text. Lines end with LF.
use Rattle.std.specs.Prelude.{ℕ, ◌+◌, List, length}
use Rattle.diagnostics.specs.LinesAround.{bytes_before}
use Rattle.ruletable.specs.Lines.{line_at}
use Rattle.ruletable.specs.declared.lines.LineRule.TheVariants.{Lf}
use Rattle.matchfailure.specs.declared.explain.position.TextPosition.{TextPosition}

-- after these bytes of an input: how many they are, the line, and the column, which counts the bytes of the line
-- from 1
abbrev pub position_after : List ℕ → TextPosition
position_after front = record {
  byte = length front;
  line = line_at Lf front (length front);
  column = bytes_before Lf front + 1;
}
