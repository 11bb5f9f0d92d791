-- Positions in texts, as they are reported.
use Rattle.std.specs.Prelude.{ℕ, ◌-◌, min, List, ◌++◌, length, map, codes, decimal, slice_index}
use Rattle.diagnostics.specs.ShownBytes.{shown}
use Rattle.abnfblocks.specs.TextLines.{NumberedLine}
use Rattle.ruletable.specs.Faults.{at_line, fault_text}
use Rattle.ruletable.specs.declared.fault.ReadFault.{ReadFault}
use Rattle.ruletable.specs.declared.fault.ReadFault.TheVariants.{Syntax, Depth, CodePredicate, TooLong, Memory}
use Rattle.ruletable.specs.declared.fault.ReadFault.TheVariants.{NumberTooLarge}

-- the number in its text of the n-th of these lines, from 1, or of the last one if there are fewer
abbrev pub number_at : List NumberedLine → ℕ → ℕ
number_at lines n = slice_index (map (λ line. line.number) lines) (min (n - 1) (length lines - 1))

-- a text's name and a line of it
abbrev pub position_shown : List ℕ → ℕ → List ℕ
position_shown name line = shown name ++ (codes ":" ++ decimal line)

-- the fault of these lines, with the number that the line has in the text
abbrev pub fault_in : List NumberedLine → ReadFault → ReadFault
fault_in lines (Syntax line) = Syntax (number_at lines line)
fault_in lines (Depth line) = Depth (number_at lines line)
fault_in lines (CodePredicate line) = CodePredicate (number_at lines line)
fault_in lines TooLong = TooLong
fault_in lines Memory = Memory
fault_in lines (NumberTooLarge line) = NumberTooLarge (number_at lines line)

-- the report of a rule that is no ABNF, where it has these lines and they have that fault
abbrev pub not_abnf_reported : List ℕ → List NumberedLine → ReadFault → List ℕ
not_abnf_reported name lines fault = position_shown name (number_at lines 1) ++ (codes ": not ABNF: "
    ++ fault_text (fault_in lines fault))

-- the report of a rule that has these lines and reads only with its lists, of which that line has the first
abbrev pub list_reported : List ℕ → List NumberedLine → ℕ → List ℕ
list_reported name lines n = position_shown name (number_at lines 1) ++ (codes ": not ABNF: "
    ++ at_line (number_at lines n) (codes "list of RFC 9110: use --expand"))
