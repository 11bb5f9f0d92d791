-- The words of the program: its command, as a parse reads it, and what the words ask for.
use Prim.Native.Char.{code}
use Rattle.std.specs.Prelude.{◌≡◌, ◌≤◌, ℕ, List, [], ◌∷◌, codes, option_copied, Option, None, Some, if◌then◌else◌}
use Rattle.std.specs.Str.{bytes_eq}
use Rattle.std.specs.Str.Parse.{IsNumeral, digits_value, without_leading_plus}
use Rattle.abnfg.specs.declared.lines.ListMode.{ListMode}
use Rattle.abnfg.specs.declared.lines.ListMode.TheVariants.{All, Cover, Miss, Random}
use Rattle.abnfg.specs.declared.lines.ListSettings.{ListSettings}
use Rattle.clap.specs.Words.{App, Row, Rule, Text, first_of, one_of}
use Rattle.clap.specs.declared.builder.action.ArgAction.TheVariants.{Set}
use Rattle.clap.specs.declared.builder.value_parser.ValueParser.TheVariants.{Unsigned}
use Rattle.cli.specs.Asked.{IsNumberOf, alphabet_named, is_flagged}
use Rattle.cli.specs.Command.{AreAlphabets, AreNames, Names, choice_rule, flag_rule, grammar_rule, letters_rule}
use Rattle.cli.specs.Command.{number_rule, program_app, rule_rule, value_rule}

-- `-g SEED`, a number of 64 bits; 1 where it is not given
abbrev pub seed_rule : Rule
seed_rule = record (value_rule (codes "seed") (code "g")) {
  action = Some Set;
  parser = Some (Unsigned 0 18446744073709551615);
  defaults = codes "1" ∷ [];
}

-- `abnfg [-s RULE] [-l N] [-c N] [-z] [-a] [-e] [-x] GRAMMAR [-u MODE] [-m MODE] [-g SEED]`
abbrev pub abnfg_app : Names → Names → App
abnfg_app letters modes = program_app (codes "abnfg") (rule_rule
    ∷ number_rule (codes "limit") (code "l") 16777216 (codes "256")
    ∷ number_rule (codes "count") (code "c") 4294967295 (codes "1000")
    ∷ flag_rule (codes "null-data") (code "z")
    ∷ flag_rule (codes "alike") (code "a")
    ∷ flag_rule (codes "edges") (code "e")
    ∷ flag_rule (codes "explain") (code "x")
    ∷ grammar_rule
    ∷ letters_rule letters
    ∷ choice_rule (codes "mode") (code "m") modes (codes "all") ∷ seed_rule ∷ [])

-- this is the command of the program
abbrev pub IsAbnfgApp : App → Type 0
IsAbnfgApp app = (letters : Names) × AreAlphabets letters × (modes : Names)
    × AreNames (codes "all" ∷ codes "cover" ∷ codes "miss" ∷ codes "random" ∷ []) modes
    × (app ≡ abnfg_app letters modes)

-- the mode of a name; `all` where none is given
abbrev pub mode_of_name : Option Text → ListMode
mode_of_name None = All
mode_of_name (Some name) = if bytes_eq name (codes "cover") then Cover else
    (if bytes_eq name (codes "miss") then Miss else (if bytes_eq name (codes "random") then Random else All))

-- n is the seed that a text gives: its decimal number, where that has 64 bits; 1 where none is given
abbrev pub IsSeedOf : Option Text → ℕ → Type 0
IsSeedOf None n = n ≡ 1
IsSeedOf (Some text) n = IsNumeral 10 (without_leading_plus text) →
    digits_value 10 (without_leading_plus text) ≤ 18446744073709551615 → n ≡ digits_value 10 (without_leading_plus text)

-- the matches of the words ask for these lines
pub record AskLines (rows : List Row) (settings : ListSettings) : Type 0 where
  pub mode : settings.mode ≡ mode_of_name (first_of (codes "mode") rows)
  pub rule : option_copied settings.rule ≡ first_of (codes "rule") rows
  pub letters : settings.letters ≡ alphabet_named (first_of (codes "letters") rows)
  pub limit : IsNumberOf 256 (one_of (codes "limit") rows) settings.limit
  pub count : IsNumberOf 1000 (one_of (codes "count") rows) settings.count
  pub nul : settings.nul ≡ is_flagged (first_of (codes "null-data") rows)
  pub alike : settings.alike ≡ is_flagged (first_of (codes "alike") rows)
  pub edges : settings.edges ≡ is_flagged (first_of (codes "edges") rows)
  pub explain : settings.explain ≡ is_flagged (first_of (codes "explain") rows)
  pub seed : IsSeedOf (one_of (codes "seed") rows) settings.seed
