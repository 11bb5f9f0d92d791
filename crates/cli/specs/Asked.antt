-- What the words of a command line ask for.
use Rattle.std.specs.Prelude.{◌≡◌, ◌==◌, ◌≤◌, ℕ, option_map, Bool, true, false, List, Option, Some, None, codes}
use Rattle.std.specs.Prelude.{[], ◌||◌, not, if◌then◌else◌, is_some, unwrap_or}
use Rattle.std.specs.Str.{bytes_eq}
use Rattle.std.specs.Str.Parse.{IsNumeral, digits_value, without_leading_plus}
use Rattle.clap.specs.Words.{Row, Text, all_of, first_of, first_value, one_of, one_text}
use Rattle.clap.specs.declared.parser.matches.Found.{Found}
use Rattle.cli.specs.declared.settings.Asked.{Asked}
use Rattle.cli.specs.declared.settings.Format.{Format}
use Rattle.cli.specs.declared.settings.Format.TheVariants as format
use Rattle.findings.specs.declared.form.FindingForm.TheVariants.{Gcc, Json}
use Rattle.ruletable.specs.declared.alphabet.Alphabet.{Alphabet}
use Rattle.ruletable.specs.declared.alphabet.Alphabet.TheVariants.{Bytes, Utf8}
use Rattle.toolrun.specs.declared.settings.Mode.{Mode}
use Rattle.toolrun.specs.declared.settings.Mode.TheVariants.{Run, Check, Print}

-- the mode of a name; `run` where none is given
abbrev pub mode_named : Option (List ℕ) → Mode
mode_named None = Run
mode_named (Some name) = if bytes_eq name (codes "check") then Check else
    (if bytes_eq name (codes "print") then Print else Run)

-- n is the limit that a text gives: its decimal number, where that is in range; 65,536 where none is given
abbrev pub IsLimitOf : Option (List ℕ) → ℕ → Type 0
IsLimitOf None n = n ≡ 65536
IsLimitOf (Some text) n = IsNumeral 10 (without_leading_plus text) → 1 ≤ digits_value 10 (without_leading_plus text) →
    digits_value 10 (without_leading_plus text) ≤ 16777216 → n ≡ digits_value 10 (without_leading_plus text)

-- n is the number that a text gives: its decimal number, where that has 32 bits; the default where none is given
abbrev pub IsNumberOf : ℕ → Option Text → ℕ → Type 0
IsNumberOf default None n = n ≡ default
IsNumberOf default (Some text) n = IsNumeral 10 (without_leading_plus text) →
    digits_value 10 (without_leading_plus text) ≤ 4294967295 → n ≡ digits_value 10 (without_leading_plus text)

-- the budget of a number: the greatest of 32 bits is none
abbrev pub budget_by : ℕ → Option ℕ
budget_by n = if n == 4294967295 then None else Some n

-- a text gives this budget; none where no text is given
abbrev pub IsBudgetOf : Option Text → Option ℕ → Type 0
IsBudgetOf text budget = (n : ℕ) × IsNumberOf 4294967295 text n × (budget ≡ budget_by n)

-- the alphabet of a name; bytes where none is given
abbrev pub alphabet_named : Option Text → Alphabet
alphabet_named None = Bytes
alphabet_named (Some name) = if bytes_eq name (codes "utf8") then Utf8 else Bytes

-- the text is the decimal number of a limit
abbrev pub IsLimitText : Text → Type 0
IsLimitText text = IsNumeral 10 (without_leading_plus text) × (1 ≤ digits_value 10 (without_leading_plus text)) ×
    (digits_value 10 (without_leading_plus text) ≤ 16777216)

-- what holds of the matches of words in which nothing is wrong: there is a limit in its range and a grammar
pub record AreWhole (f : Found) : Type 0 where
  pub limit : (text : Text) × (one_text f (codes "limit") ≡ Some text) × IsLimitText text
  pub grammar : is_some (first_value f (codes "grammar")) ≡ true

-- the flag is given
abbrev pub is_flagged : Option Text → Bool
is_flagged None = false
is_flagged (Some text) = bytes_eq text (codes "true")

-- the form of messages of a name; lines of text where none is given
abbrev pub format_named : Option Text → Format
format_named None = format.Text
format_named (Some name) = if bytes_eq name (codes "gcc") then format.Findings Gcc else
    if bytes_eq name (codes "json") then format.Findings Json else format.Text

abbrev pub is_text : Format → Bool
is_text format.Text = true
is_text (format.Findings form) = false

-- messages are explained: the words ask for that, or for findings
abbrev pub explained_in : List Row → Bool
explained_in rows =
    is_flagged (first_of (codes "explain") rows) || not (is_text (format_named (first_of (codes "format") rows)))

-- the files that words name after the grammar
abbrev pub files_in : List Row → List Text
files_in rows = unwrap_or (all_of (codes "file") rows) []

-- the name of the input, by the first file that words name; `-` where they name none
abbrev pub input_named : Option Text → Text
input_named None = codes "-"
input_named (Some name) = name

-- The matches ask for these settings and this grammar. Asks says what they ask for in the language alone.
pub record Ask {O : Type 0} (Asks : List Row → O → Type 0) (rows : List Row) (asked : Asked O) : Type 0 where
  pub mode : asked.settings.mode ≡ mode_named (first_of (codes "mode") rows)
  pub limit : (text : Text) × (one_of (codes "limit") rows ≡ Some text) × IsLimitText text
      × (asked.settings.limit ≡ digits_value 10 (without_leading_plus text))
  pub start : option_map (λ s. s.now) asked.settings.start ≡ first_of (codes "rule") rows
  pub input : asked.settings.input.now ≡ input_named (first_of (codes "file") rows)
  pub explain : asked.settings.explain ≡ explained_in rows
  pub options : Asks rows asked.settings.options
  pub grammar : first_of (codes "grammar") rows ≡ Some asked.path.now
  pub file : option_map (λ s. s.now) asked.file ≡ first_of (codes "file") rows
  pub format : asked.format ≡ format_named (first_of (codes "format") rows)
