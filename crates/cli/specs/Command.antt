-- The commands of the programs, as a parse reads them.
use Prim.Native.Char.{code}
use Rattle.std.specs.Prelude.{◌≡◌, ℕ, Bool, List, [], ◌∷◌, ◌++◌, Some, true, false, codes, map, pos}
use Rattle.std.specs.Borrow.{Bor}
use Rattle.clap.specs.Lexer.{usize_max}
use Rattle.clap.specs.Simple.{new_shape}
use Rattle.clap.specs.Words.{App, Rule, Text, new_rule}
use Rattle.clap.specs.declared.builder.action.ArgAction.TheVariants.{Append, Set, SetTrue, Version}
use Rattle.clap.specs.declared.builder.value_parser.ValueParser.TheVariants as vp
use Rattle.cli.specs.declared.command.Parameter.{Parameter}
use Rattle.cli.specs.declared.command.Parameter.TheVariants as parameter

-- texts that an argument takes
abbrev pub Names : Type 0
Names = Bor (List (Bor Text))

-- the names are these texts
abbrev pub AreNames : List Text → Names → Type 0
AreNames texts names = map (λ s. s.now) names.now ≡ texts

-- an option of this letter, which takes its id as a long name too
abbrev pub option_rule : Text → ℕ → Rule
option_rule id letter = record (new_rule id) { aliases = id ∷ []; short = Some letter }

-- a flag of this letter
abbrev pub flag_rule : Text → ℕ → Rule
flag_rule id letter = record (option_rule id letter) { action = Some SetTrue; parser = Some vp.Bool }

-- a flag of this long name, which has no letter
abbrev pub long_flag_rule : Text → Rule
long_flag_rule id = record (new_rule id) { long = Some id; action = Some SetTrue; parser = Some vp.Bool }

-- an option of this letter with a value, any text
abbrev pub value_rule : Text → ℕ → Rule
value_rule id letter = record (option_rule id letter) { value_names = 1 }

-- an option of this letter, whose value is one of the names; that one where it is not given
abbrev pub choice_rule : Text → ℕ → Names → Text → Rule
choice_rule id letter names default =
    record (value_rule id letter) { parser = Some (vp.Names names); defaults = default ∷ [] }

-- an option of this letter, whose value is a number from 1 to the greatest; that one where it is not given
abbrev pub number_rule : Text → ℕ → ℕ → Text → Rule
number_rule id letter greatest default = record (value_rule id letter) {
  action = Some Set;
  parser = Some (vp.Signed (pos 1) (pos greatest));
  defaults = default ∷ [];
}

-- a word that is no option, and whether it is required
abbrev pub operand_rule : Text → Bool → Rule
operand_rule id is_required = record (new_rule id) { value_names = 1; action = Some Set; required = is_required }

-- words that are no options, and whether one is required
abbrev pub operands_rule : Text → Bool → Rule
operands_rule id is_required = record (new_rule id) {
  value_names = 1;
  action = Some Append;
  range = Some (record { start_inclusive = 1; end_inclusive = usize_max });
  required = is_required;
}

-- the rule of a parameter
abbrev pub parameter_rule : Parameter → Rule
parameter_rule (parameter.Flag id letter) = flag_rule id.now letter
parameter_rule (parameter.LongFlag id) = long_flag_rule id.now
parameter_rule (parameter.Text id letter value) = value_rule id.now letter
parameter_rule (parameter.Choice id letter value names default) = choice_rule id.now letter names default.now
parameter_rule (parameter.Number id letter greatest default) = number_rule id.now letter greatest default.now
parameter_rule (parameter.Operand id value is_required) = operand_rule id.now is_required
parameter_rule (parameter.Operands id value is_required) = operands_rule id.now is_required

-- `--version`, which has no letter
abbrev pub version_rule : Rule
version_rule = record (new_rule (codes "version")) { long = Some (codes "version"); action = Some Version }

-- the command of a program of this name: it has `--version`, and these rules
abbrev pub program_app : Text → List Rule → App
program_app name rules = record {
  top = record (new_shape name) {
    rules = version_rule ∷ rules;
    has_version = true;
    disable_version_flag = true;
  };
  subs = [];
}

-- the command with these rules after its own
abbrev pub with_rules : App → List Rule → App
with_rules app rules = record app { top = record app.top { rules = app.top.rules ++ rules } }

-- these are the names of the modes
abbrev pub AreModes : Names → Type 0
AreModes = AreNames (codes "run" ∷ codes "check" ∷ codes "print" ∷ [])

-- `-l N`, a number from 1 to 16,777,216; 65,536 where it is not given
abbrev pub limit_rule : Rule
limit_rule = number_rule (codes "limit") (code "l") 16777216 (codes "65536")

-- `-b N`, a number of 32 bits from 1; the greatest where it is not given
abbrev pub budget_rule : Rule
budget_rule = number_rule (codes "budget") (code "b") 4294967295 (codes "4294967295")

-- `-s RULE`, any text
abbrev pub rule_rule : Rule
rule_rule = value_rule (codes "rule") (code "s")

-- the first word that is no option
abbrev pub grammar_rule : Rule
grammar_rule = operand_rule (codes "grammar") true

-- the command of a tool, its modes under these names: that of both, `[-m MODE] [-l N] [-s RULE] [-x] GRAMMAR [FILE]..`,
-- and its own rules
abbrev pub tool_app : Names → Text → List Rule → App
tool_app modes name own = program_app name (choice_rule (codes "mode") (code "m") modes (codes "run") ∷ limit_rule
    ∷ rule_rule ∷ flag_rule (codes "explain") (code "x") ∷ grammar_rule ∷ operands_rule (codes "file") false ∷ own)

-- `-u MODE`, one of the names; `bytes` where it is not given
abbrev pub letters_rule : Names → Rule
letters_rule names = choice_rule (codes "letters") (code "u") names (codes "bytes")

-- `-f FORMAT`, one of the names; `text` where it is not given
abbrev pub format_rule : Names → Rule
format_rule names = choice_rule (codes "format") (code "f") names (codes "text")

-- these are the names of the forms of messages
abbrev pub AreFormats : Names → Type 0
AreFormats = AreNames (codes "text" ∷ codes "gcc" ∷ codes "json" ∷ [])

-- these are the names of the alphabets of a line
abbrev pub AreAlphabets : Names → Type 0
AreAlphabets = AreNames (codes "bytes" ∷ codes "utf8" ∷ [])
