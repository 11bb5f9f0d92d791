-- The lines of a text: LF or CR LF ends each of them, and belongs to none; the last one may lack it.
use Prim.Native.Char.{code}
use Rattle.std.specs.Prelude.{ℕ, ◌+◌, ◌==◌, ◌&&◌, nat_lt, bytes_eq, List, [], ◌∷◌, take, drop, if◌then◌else◌}
use Rattle.std.specs.List.{prefix_len}
use Rattle.abnfblocks.specs.declared.rfctext.line_kind.LineKind.{LineKind}
use Rattle.abnfblocks.specs.declared.rfctext.text_line.TextLine.{TextLine}
use Rattle.abnfblocks.specs.LineKinds.{is_feed, kind_of}
use Rattle.abnfblocks.specs.RuleLines.{begins_by}

-- a line: its number in the text, from 1, its bytes, and what it looks like
pub record NumberedLine : Type 0 where
  pub number : ℕ
  pub bytes : List ℕ
  pub kind : LineKind

-- what the code's line stands for
abbrev pub numbered : TextLine → NumberedLine
numbered line = record { number = line.number; bytes = line.bytes.now; kind = line.kind }

-- the byte stands in front of the first part
abbrev pub with_byte : ℕ → List (List ℕ) → List (List ℕ)
with_byte b [] = (b ∷ []) ∷ []
with_byte b (part ∷ parts) = (b ∷ part) ∷ parts

-- What LF or CR LF ends, and what stands after the last of these if that is something. A CR that no LF follows is text.
abbrev pub line_parts : List ℕ → List (List ℕ)
line_parts [] = []
line_parts (b ∷ bytes) = if b == code "\n" then [] ∷ line_parts bytes
    else if (b == code "\r") && begins_by (code "\n") bytes then line_parts bytes
    else with_byte b (line_parts bytes)

-- Form feeds that begin a line stand before it.
abbrev pub line_in : ℕ → List ℕ → NumberedLine
line_in number part =
    let feeds = prefix_len is_feed part in
    record { number = number; bytes = drop feeds part; kind = kind_of (nat_lt 0 feeds) (drop feeds part) }

abbrev pub lines_from : ℕ → List (List ℕ) → List NumberedLine
lines_from number [] = []
lines_from number (part ∷ parts) = line_in number part ∷ lines_from (number + 1) parts

abbrev pub text_lines : List ℕ → List NumberedLine
text_lines text = lines_from 1 (line_parts text)

-- what stands after the byte order mark, if one begins the text; else the text
abbrev pub after_mark : List ℕ → List ℕ
after_mark text = if bytes_eq (take 3 text) (0xEF ∷ 0xBB ∷ 0xBF ∷ []) then drop 3 text else text
