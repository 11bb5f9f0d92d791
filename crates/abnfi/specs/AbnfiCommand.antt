-- The command of the program, as a parse reads it, and what its words ask for.
use Prim.Native.Char.{code}
use Rattle.std.specs.Prelude.{◌≡◌, ℕ, List, [], ◌∷◌, Option, Some, None, codes, if◌then◌else◌}
use Rattle.std.specs.Str.{bytes_eq}
use Rattle.clap.specs.Words.{App, Row, first_of, one_of}
use Rattle.abnfrun.specs.declared.options.AbnfOptions.{AbnfOptions}
use Rattle.cli.specs.Asked.{IsBudgetOf, alphabet_named, is_flagged}
use Rattle.cli.specs.Command.{AreAlphabets, AreFormats, AreModes, AreNames, Names, budget_rule, choice_rule, flag_rule}
use Rattle.cli.specs.Command.{format_rule, letters_rule, long_flag_rule, tool_app}
use Rattle.linejudge.specs.declared.printed.Printed.{Printed}
use Rattle.linejudge.specs.declared.printed.Printed.TheVariants.{Answers, Count, Derived, Nothing, Refused}

-- these are the names of what is printed
abbrev pub ArePrinted : Names → Type 0
ArePrinted =
    AreNames (codes "answers" ∷ codes "derived" ∷ codes "refused" ∷ codes "count" ∷ codes "none" ∷ [])

-- `abnfi [-m MODE] [-l N] [-s RULE] [-u MODE] [-p WHAT] [-H] [-n] [-w] [-z] [-k] [-q] [--line-buffered] [-b N] [-x]
-- [-f FORM] GRAMMAR [FILE]..`
abbrev pub abnfi_app : Names → Names → Names → Names → App
abnfi_app names alphabets printed formats = tool_app names (codes "abnfi") (letters_rule alphabets
    ∷ flag_rule (codes "viable") (code "w")
    ∷ flag_rule (codes "null-data") (code "z")
    ∷ choice_rule (codes "print") (code "p") printed (codes "answers")
    ∷ flag_rule (codes "with-filename") (code "H")
    ∷ flag_rule (codes "line-number") (code "n")
    ∷ flag_rule (codes "keep-ends") (code "k")
    ∷ flag_rule (codes "quiet") (code "q")
    ∷ long_flag_rule (codes "line-buffered")
    ∷ budget_rule
    ∷ format_rule formats ∷ [])

-- this is the command of the program
abbrev pub IsAbnfiApp : App → Type 0
IsAbnfiApp app = (names : Names) × AreModes names × (alphabets : Names) × AreAlphabets alphabets ×
    (printed : Names) × ArePrinted printed × (formats : Names) × AreFormats formats ×
    (app ≡ abnfi_app names alphabets printed formats)

-- what is printed by that name; answers where none is given
abbrev pub printed_named : Option (List ℕ) → Printed
printed_named None = Answers
printed_named (Some name) = if bytes_eq name (codes "derived") then Derived else
    (if bytes_eq name (codes "refused") then Refused else (if bytes_eq name (codes "count") then Count else
    (if bytes_eq name (codes "none") then Nothing else Answers)))

-- the matches ask for these options
pub record AsksAbnfi (rows : List Row) (options : AbnfOptions) : Type 0 where
  pub letters : options.letters ≡ alphabet_named (first_of (codes "letters") rows)
  pub viable : options.viable ≡ is_flagged (first_of (codes "viable") rows)
  pub nul : options.nul ≡ is_flagged (first_of (codes "null-data") rows)
  pub keeps : options.keeps ≡ is_flagged (first_of (codes "keep-ends") rows)
  pub printed : options.printed ≡ printed_named (first_of (codes "print") rows)
  pub named : options.named ≡ is_flagged (first_of (codes "with-filename") rows)
  pub numbered : options.numbered ≡ is_flagged (first_of (codes "line-number") rows)
  pub quiet : options.quiet ≡ is_flagged (first_of (codes "quiet") rows)
  pub line_buffered : options.line_buffered ≡ is_flagged (first_of (codes "line-buffered") rows)
  pub budget : IsBudgetOf (one_of (codes "budget") rows) options.budget
