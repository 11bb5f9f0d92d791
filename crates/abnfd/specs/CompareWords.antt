-- The words of the program: its command, as a parse reads it, and what the words ask for.
use Prim.Native.Char.{code}
use Rattle.std.specs.Prelude.{◌≡◌, ◌&&◌, List, [], ◌∷◌, Bool, Option, Some, None, codes, false, is_some, true}
use Rattle.clap.specs.Words.{App, Row, Text, first_of}
use Rattle.cli.specs.Asked.{alphabet_named, is_flagged}
use Rattle.cli.specs.Command.{AreAlphabets, Names, flag_rule, letters_rule, number_rule, operand_rule, program_app}
use Rattle.cli.specs.Command.{rule_rule, value_rule}
use Rattle.cli.specs.Inputs.{is_standard}
use Rattle.ruletable.specs.declared.alphabet.Alphabet.{Alphabet}

-- `abnfd [-s RULE] [-t RULE] [-a] [-b N] OLD NEW [-u MODE] [-x]`
abbrev pub abnfd_app : Names → App
abnfd_app names = program_app (codes "abnfd") (rule_rule
    ∷ value_rule (codes "new-rule") (code "t")
    ∷ flag_rule (codes "all") (code "a")
    ∷ number_rule (codes "budget") (code "b") 4294967295 (codes "1000000")
    ∷ operand_rule (codes "old") true
    ∷ operand_rule (codes "new") true
    ∷ letters_rule names
    ∷ flag_rule (codes "explain") (code "x") ∷ [])

-- this is the command of the program
abbrev pub IsAbnfdApp : App → Type 0
IsAbnfdApp app = (names : Names) × AreAlphabets names × (app ≡ abnfd_app names)

-- the name of the new grammar's rule, or else that of the old one's
abbrev pub new_rule_found : Option Text → Option Text → Option Text
new_rule_found None old = old
new_rule_found (Some name) old = Some name

-- the alphabet of lines that the words ask for
abbrev pub symbols_asked : List Row → Alphabet
symbols_asked rows = alphabet_named (first_of (codes "letters") rows)

-- the name of the compared rule of each grammar, where the words give one
abbrev pub old_rule_asked : List Row → Option Text
old_rule_asked rows = first_of (codes "rule") rows

abbrev pub new_rule_asked : List Row → Option Text
new_rule_asked rows = new_rule_found (first_of (codes "new-rule") rows) (first_of (codes "rule") rows)

-- the words ask for all rules
abbrev pub all_asked : List Row → Bool
all_asked rows = is_flagged (first_of (codes "all") rows)

-- the words ask for explanations
abbrev pub explain_asked : List Row → Bool
explain_asked rows = is_flagged (first_of (codes "explain") rows)

-- all rules are asked for, and one too
abbrev pub is_clash : Bool → Option Text → Bool
is_clash all new_rule = all && is_some new_rule

-- an operand names standard input
abbrev pub is_standard_input : Option Text → Bool
is_standard_input None = false
is_standard_input (Some name) = is_standard name

-- both grammars are standard input
abbrev pub is_shared : List Row → Bool
is_shared rows = is_standard_input (first_of (codes "old") rows) && is_standard_input (first_of (codes "new") rows)
