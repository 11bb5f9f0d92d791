-- The core rules that derive single symbols, and those symbols (RFC 5234, appendix B.1).
use Prim.Native.Char.{code}
use Rattle.std.specs.Prelude.{ℕ, ◌==◌, if◌then◌else◌, List, [], ◌∷◌, Option, Some, None, codes}
use Rattle.refusedlines.specs.declared.letterruns.core_rule.CoreRule.{CoreRule}
use Rattle.refusedlines.specs.declared.letterruns.core_rule.CoreRule.TheVariants.{Octet, Char, Vchar, Alpha, Ctl}
use Rattle.refusedlines.specs.declared.letterruns.core_rule.CoreRule.TheVariants.{Hexdig, Digit, Wsp}
use Rattle.refusedlines.specs.declared.letterruns.core_rule.CoreRule.TheVariants.{Sp, Htab, Cr, Lf, Dquote}
use Rattle.refusedlines.specs.declared.letterruns.run.LetterRun.{LetterRun}

abbrev pub letter_run : ℕ → ℕ → LetterRun
letter_run first last = record { first = first; last = last }

-- the symbols of a core rule, as ascending maximal runs
abbrev pub core_runs : CoreRule → List LetterRun
core_runs Octet = letter_run 0x00 0xFF ∷ []
core_runs Char = letter_run 0x01 0x7F ∷ []
core_runs Vchar = letter_run 0x21 0x7E ∷ []
core_runs Alpha = letter_run (code "A") (code "Z") ∷ letter_run (code "a") (code "z") ∷ []
core_runs Ctl = letter_run 0x00 0x1F ∷ letter_run 0x7F 0x7F ∷ []
core_runs Hexdig = letter_run (code "0") (code "9") ∷ letter_run (code "A") (code "F")
    ∷ letter_run (code "a") (code "f") ∷ []
core_runs Digit = letter_run (code "0") (code "9") ∷ []
core_runs Wsp = letter_run 0x09 0x09 ∷ letter_run 0x20 0x20 ∷ []
core_runs Sp = letter_run 0x20 0x20 ∷ []
core_runs Htab = letter_run 0x09 0x09 ∷ []
core_runs Cr = letter_run 0x0D 0x0D ∷ []
core_runs Lf = letter_run 0x0A 0x0A ∷ []
core_runs Dquote = letter_run 0x22 0x22 ∷ []

abbrev pub core_name : CoreRule → List ℕ
core_name Octet = codes "OCTET"
core_name Char = codes "CHAR"
core_name Vchar = codes "VCHAR"
core_name Alpha = codes "ALPHA"
core_name Ctl = codes "CTL"
core_name Hexdig = codes "HEXDIG"
core_name Digit = codes "DIGIT"
core_name Wsp = codes "WSP"
core_name Sp = codes "SP"
core_name Htab = codes "HTAB"
core_name Cr = codes "CR"
core_name Lf = codes "LF"
core_name Dquote = codes "DQUOTE"

-- those of several symbols, in the order in which a set is reported by their names
abbrev pub core_sets : List CoreRule
core_sets = Octet ∷ Char ∷ Vchar ∷ Alpha ∷ Ctl ∷ Hexdig ∷ Digit ∷ Wsp ∷ []

-- the core rule of one symbol
abbrev pub core_of : ℕ → Option CoreRule
core_of c = if c == 0x20 then Some Sp else if c == 0x09 then Some Htab else if c == 0x0D then Some Cr
    else if c == 0x0A then Some Lf else if c == 0x22 then Some Dquote else None
