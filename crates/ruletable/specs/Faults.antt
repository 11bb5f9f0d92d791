-- The line that each fault of a grammar's text has on the error output.
use Rattle.std.specs.Prelude.{ℕ, List, ◌++◌, codes, decimal}
use Rattle.ruletable.specs.declared.fault.ReadFault.{ReadFault}
use Rattle.ruletable.specs.declared.fault.ReadFault.TheVariants.{Syntax, Depth, CodePredicate, TooLong, Memory}
use Rattle.ruletable.specs.declared.fault.ReadFault.TheVariants.{NumberTooLarge}

-- `line N: ` and what is wrong there
abbrev pub at_line : ℕ → List ℕ → List ℕ
at_line line what = codes "line " ++ decimal line ++ codes ": " ++ what ++ codes "\n"

abbrev pub fault_text : ReadFault → List ℕ
fault_text (Syntax line) = at_line line (codes "syntax error")
fault_text (Depth line) = at_line line (codes "nested too deeply")
fault_text (CodePredicate line) = at_line line (codes "code predicate")
fault_text TooLong = codes "grammar too long\n"
fault_text Memory = codes "out of memory\n"
fault_text (NumberTooLarge line) = at_line line (codes "number too large")
