-- The command of the program, as a parse reads it, and what its words ask for.
use Prim.Native.Char.{code}
use Rattle.std.specs.Prelude.{◌≡◌, List, [], ◌∷◌, codes}
use Rattle.clap.specs.Words.{App, Row, first_of, one_of}
use Rattle.cli.specs.Asked.{IsBudgetOf, is_flagged}
use Rattle.cli.specs.Command.{AreFormats, AreModes, Names, budget_rule, flag_rule, format_rule, long_flag_rule}
use Rattle.cli.specs.Command.{tool_app}
use Rattle.pegrun.specs.declared.options.PegOptions.{PegOptions}

-- `pegi [-m MODE] [-l N] [-s RULE] [-b N] [-r] [-1] [--escapes] [--line-buffered] [-x] [-f FORM] GRAMMAR [FILE]..`
abbrev pub pegi_app : Names → Names → App
pegi_app modes formats = tool_app modes (codes "pegi") (budget_rule ∷ flag_rule (codes "raw") (code "r")
    ∷ flag_rule (codes "whole") (code "1")
    ∷ long_flag_rule (codes "escapes")
    ∷ long_flag_rule (codes "line-buffered")
    ∷ format_rule formats ∷ [])

-- this is the command of the program
abbrev pub IsPegiApp : App → Type 0
IsPegiApp app = (modes : Names) × AreModes modes × (formats : Names) × AreFormats formats
    × (app ≡ pegi_app modes formats)

-- the matches ask for these options
pub record AsksPegi (rows : List Row) (options : PegOptions) : Type 0 where
  pub raw : options.style.raw ≡ is_flagged (first_of (codes "raw") rows)
  pub escapes : options.style.escapes ≡ is_flagged (first_of (codes "escapes") rows)
  pub whole : options.whole ≡ is_flagged (first_of (codes "whole") rows)
  pub line_buffered : options.line_buffered ≡ is_flagged (first_of (codes "line-buffered") rows)
  pub budget : IsBudgetOf (one_of (codes "budget") rows) options.budget
