-- The lines that explain a message.
use Prim.Native.Char.{code}
use Rattle.std.specs.Prelude.{ℕ, ◌+◌, ◌==◌, Bool, false, List, [], ◌∷◌, Option, Some, None, codes, if◌then◌else◌}
use Rattle.findings.specs.MessageParts.{ReportAt, after_front, report_in}
use Rattle.findings.specs.MessageSorts.{starts_so}

-- the line explains a message before it
abbrev pub is_explaining : List ℕ → Bool
is_explaining [] = false
is_explaining (b ∷ bytes) = b == code " "

-- how many of the first lines do
abbrev pub count_explaining : List (List ℕ) → ℕ
count_explaining [] = 0
count_explaining (l ∷ ls) = if is_explaining l then 1 + count_explaining ls else 0

abbrev pub report_or : Option ReportAt → Option ReportAt → Option ReportAt
report_or None other = other
report_or (Some report) other = Some report

-- the first of the lines that give a line of the grammar: its number, and what is reported of it
abbrev pub first_report : List (List ℕ) → Option ReportAt
first_report [] = None
first_report (l ∷ ls) = report_or (report_in (codes "  line ") l) (first_report ls)

-- the words are a chain of rules
abbrev pub chain_or : Option (List ℕ) → Option (List ℕ) → Option (List ℕ)
chain_or None other = other
chain_or (Some words) other = if starts_so words (codes "reached by ") then Some words else other

-- by which rules the judged one reaches the rule of a message, if a line says so
abbrev pub chain_in : List (List ℕ) → Option (List ℕ)
chain_in [] = None
chain_in (l ∷ ls) = chain_or (after_front (codes "  ") l) (chain_in ls)
