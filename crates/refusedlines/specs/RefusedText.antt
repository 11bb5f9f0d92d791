-- The lines that explain a rejected line.
use Prim.Native.Char.{code}
use Rattle.std.specs.Prelude.{ℕ, ◌+◌, nat_lt, Bool, true, false, if◌then◌else◌, List, [], ◌∷◌, ◌++◌, codes, decimal}
use Rattle.std.specs.Prelude.{zero, suc, map, take, drop, length, not, ◌-◌, ◌==◌, ◌&&◌, ◌||◌, bytes_eq}
use Rattle.std.specs.Prelude.{Option, Some, None}
use Rattle.std.specs.List.{flat_map, position_or_len, starts_with, suffix_len}
use Rattle.ruletable.specs.declared.alphabet.Alphabet.{Alphabet}
use Rattle.refusedlines.specs.SymbolPieces.{pieces}
use Rattle.refusedlines.specs.ReportedLetters.{reported_text}
use Rattle.refusedlines.specs.declared.letterruns.reported.ReportedLetters.{ReportedLetters}
use Rattle.refusedlines.specs.declared.letterruns.run.LetterRun.{LetterRun}
use Rattle.diagnostics.specs.FirstBytes.{fact_line}
use Rattle.diagnostics.specs.LinesAround.{bytes_before}
use Rattle.diagnostics.specs.NoteLines.{more_reported}
use Rattle.diagnostics.specs.Pictures.{picture}
use Rattle.diagnostics.specs.ShownBytes.{cut}
use Rattle.refusedlines.specs.declared.refusal.LineUnit.{LineUnit}
use Rattle.refusedlines.specs.declared.refusal.LineUnit.TheVariants.{Line, Record}
use Rattle.refusedlines.specs.declared.refusal.RefusedAt.{RefusedAt}
use Rattle.refusedlines.specs.declared.refusal.RefusedAt.TheVariants.{Letter, NoText, End}
use Rattle.ruletable.specs.Lines.{line_at}
use Rattle.ruletable.specs.declared.lines.LineRule.TheVariants.{Lf}

-- texts with slashes between
abbrev pub slashed : List (List ℕ) → List ℕ
slashed [] = []
slashed (t ∷ ts) = t ++ flat_map (λ v. codes " / " ++ v) ts

-- how many pieces are reported in full
abbrev pub shown_pieces : ℕ
shown_pieces = 16

-- how many pieces are left out
abbrev pub more_text : ℕ → List ℕ
more_text zero = []
more_text (suc n) = codes " and " ++ (decimal (suc n) ++ codes " more")

-- the first pieces, and how many more there are
abbrev pub pieces_text : List ReportedLetters → List ℕ
pieces_text all = slashed (map reported_text (take shown_pieces all)) ++ more_text (length all - shown_pieces)

-- the text of the symbols that can follow
abbrev pub symbols_text : Alphabet → List LetterRun → List ℕ
symbols_text alphabet runs = pieces_text (pieces alphabet runs)

-- a text begins with another
abbrev pub has_front : List ℕ → List ℕ → Bool
has_front text front = starts_with (λ a b. a == b) text front

-- the text of a part restates that of the symbols: it begins with that, and with ` in ` or ` of ` after it
abbrev pub restates : List ℕ → List ℕ → Bool
restates symbols part = bytes_eq (take (length symbols) part) symbols
    && (has_front (drop (length symbols) part) (codes " in ")
    || has_front (drop (length symbols) part) (codes " of "))

-- of the texts of the parts the only one, if it restates that of the symbols
abbrev pub only_part : List ℕ → List (List ℕ) → Option (List ℕ)
only_part symbols [] = None
only_part symbols (part ∷ []) = if restates symbols part then Some part else None
only_part symbols (part ∷ other ∷ parts) = None

-- it is reported in place of the symbols
abbrev pub expected_by : List ℕ → Option (List ℕ) → List ℕ
expected_by symbols None = symbols
expected_by symbols (Some part) = part

-- what is expected: the symbols, or that part, and then the words for the end
abbrev pub expected_rest : List ℕ → Option (List ℕ) → List ℕ → List ℕ
expected_rest symbols only ended = expected_by symbols only ++ (ended ++ codes "\n")

-- The parts, if none is reported in place of the symbols: a line of each of the first ones, and how many more there
-- are.
abbrev pub part_lines : Option (List ℕ) → List (List ℕ) → List ℕ
part_lines None parts = flat_map fact_line (take 16 parts) ++ more_reported (length parts - 16)
part_lines (Some part) parts = []

-- that a line may end, after the symbols that can follow
abbrev pub end_text : List LetterRun → Bool → List ℕ
end_text runs false = []
end_text [] true = codes "the end of the line"
end_text (run ∷ runs) true = codes " or the end of the line"

-- Where a line is rejected: at the symbol after its longest viable prefix; if that has all its symbols, at bytes that
-- are not UTF-8, or at its end. Symbols count from 1.
abbrev pub refused_at : ℕ → ℕ → Bool → RefusedAt
refused_at n count torn = if nat_lt n count then Letter (n + 1) else if torn then NoText (n + 1) else End

abbrev pub at_text : ℕ → RefusedAt → List ℕ
at_text number (Letter n) = codes "line " ++ (decimal number ++ (codes ", letter " ++ (decimal n
    ++ codes ": expected ")))
at_text number (NoText n) = codes "line " ++ (decimal number ++ (codes ", letter " ++ (decimal n
    ++ codes ": not UTF-8, expected ")))
at_text number End = codes "line " ++ (decimal number ++ codes " ends too early: expected ")

-- the symbols after the last LF among these, counted from 1
abbrev pub column_after : List ℕ → ℕ
column_after symbols = suffix_len (λ c. not (c == code "\n")) symbols + 1

-- why a record is rejected there
abbrev pub record_fault : RefusedAt → List ℕ
record_fault (Letter n) = codes ": expected "
record_fault (NoText n) = codes ": not UTF-8, expected "
record_fault End = codes " ends too early: expected "

-- where a record is rejected: after these of its bytes, in that column
abbrev pub at_record : ℕ → List ℕ → ℕ → RefusedAt → List ℕ
at_record number before column at = codes "record " ++ (decimal number ++ (codes ", line "
    ++ (decimal (line_at Lf before (length before)) ++ (codes ", column " ++ (decimal column ++ record_fault at)))))

-- the line of a record in which so many bytes end: without its LF, but with its CR
abbrev pub line_in_record : List ℕ → ℕ → List ℕ
line_in_record bytes position =
    let before = bytes_before Lf (take position bytes) in
    take (before + position_or_len (λ b. b == code "\n") (drop position bytes)) (drop (position - before) bytes)

-- neither a symbol nor the end can follow there
abbrev pub is_none : List LetterRun → Bool → Bool
is_none [] ends = if ends then false else true
is_none (run ∷ runs) ends = false

-- a picture of a position of a line; of an empty line there is none
abbrev pub line_picture : List ℕ → ℕ → List ℕ
line_picture [] position = []
line_picture (b ∷ line) position = picture (b ∷ line) position

-- what is expected at a position of a line of bytes: symbols, or the end; a picture of the position; and the parts
abbrev pub reported_expected : Alphabet → ℕ → List ℕ → RefusedAt → ℕ → List LetterRun → Bool → List (List ℕ) → List ℕ
reported_expected alphabet number line at position runs ends parts =
    let symbols = symbols_text alphabet runs in
    let only = only_part symbols parts in
    at_text number at ++ (expected_rest symbols only (end_text runs ends) ++ (line_picture line position
    ++ part_lines only parts))

-- that a record may end, after the symbols that can follow
abbrev pub record_end : List LetterRun → Bool → List ℕ
record_end runs false = []
record_end [] true = codes "the end of the record"
record_end (run ∷ runs) true = codes " or the end of the record"

-- .. at a position of a record
abbrev pub record_expected : Alphabet → ℕ → List ℕ → RefusedAt → ℕ → ℕ → List LetterRun → Bool → List (List ℕ) → List ℕ
record_expected alphabet number line at position column runs ends parts =
    let symbols = symbols_text alphabet runs in
    let only = only_part symbols parts in
    at_record number (take position line) column at ++ (expected_rest symbols only (record_end runs ends)
    ++ (line_picture (line_in_record line position) (bytes_before Lf (take position line)) ++ part_lines only parts))

-- what is rejected
abbrev pub unit_word : LineUnit → List ℕ
unit_word Line = codes "line "
unit_word Record = codes "record "

-- the rule derives nothing
abbrev pub none_of : LineUnit → ℕ → List ℕ → List ℕ
none_of unit number name = unit_word unit ++ (decimal number ++ (codes ": rule '" ++ (cut name
    ++ codes "' derives nothing\n")))

-- what is expected, in a line or a record
abbrev pub expected_of : LineUnit → Alphabet → ℕ → List ℕ → RefusedAt → ℕ → ℕ → List LetterRun → Bool
    → List (List ℕ) → List ℕ
expected_of Line alphabet number line at position column runs ends parts =
    reported_expected alphabet number line at position runs ends parts
expected_of Record alphabet number line at position column runs ends parts =
    record_expected alphabet number line at position column runs ends parts

-- what explains a rejected line or record, where the parts that can come next have these texts
abbrev pub unit_text : LineUnit → Alphabet → List ℕ → ℕ → List ℕ → RefusedAt → ℕ → ℕ → List LetterRun → Bool
    → List (List ℕ) → List ℕ
unit_text unit alphabet name number line at position column runs ends parts =
    if is_none runs ends then none_of unit number name
    else expected_of unit alphabet number line at position column runs ends parts
