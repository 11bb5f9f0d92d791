-- The settings that C asks for.
use Rattle.std.specs.Prelude.{◌≡◌, ◌<◌, ◌==◌, ◌||◌, ℕ, Bool, true, false, List, Option, Some, None, option_copied}
use Rattle.std.specs.Prelude.{if◌then◌else◌, IsSome}
use Rattle.std.specs.Str.{IsUtf8}
use Rattle.abnfrun.specs.declared.options.AbnfOptions.{AbnfOptions}
use Rattle.capi.specs.declared.asked.CSettings.{CSettings}
use Rattle.ruletable.specs.declared.alphabet.Alphabet.{Alphabet}
use Rattle.ruletable.specs.declared.alphabet.Alphabet.TheVariants.{Bytes, Utf8}
use Rattle.linejudge.specs.declared.printed.Printed.TheVariants.{Answers}
use Rattle.pegrun.specs.declared.options.PegOptions.{PegOptions}
use Rattle.toolrun.specs.declared.settings.Mode.{Mode}
use Rattle.toolrun.specs.declared.settings.Mode.TheVariants.{Run, Check, Print}
use Rattle.toolrun.specs.declared.settings.Settings.{Settings}

-- how many bytes older settings have: two numbers of eight bytes, seven fields of one byte, and one unused byte
abbrev pub older_size : ℕ
older_size = 24

-- how many bytes the settings have: two more numbers of eight bytes
abbrev pub settings_size : ℕ
settings_size = 40

abbrev pub is_known_size : ℕ → Bool
is_known_size n = (n == older_size) || (n == settings_size)

-- the mode of a number
abbrev pub mode_by : ℕ → Option Mode
mode_by n = if n == 0 then Some Run else (if n == 1 then Some Check else (if n == 2 then Some Print else None))

-- the alphabet of a number
abbrev pub alphabet_by : ℕ → Option Alphabet
alphabet_by n = if n == 0 then Some Bytes else (if n == 1 then Some Utf8 else None)

-- the name of a rule, where one is given
abbrev pub name_by : Bool → List ℕ → Option (List ℕ)
name_by true name = Some name
name_by false name = None

-- the budget of a number
abbrev pub budget_for : ℕ → Option ℕ
budget_for n = if n == 0 then None else Some n

-- the budget; older settings have none
abbrev pub budget_asked : CSettings → Option ℕ
budget_asked asked = if asked.size == settings_size then budget_for asked.budget else None

-- the seed; that of older settings is 1
abbrev pub seed_asked : CSettings → ℕ
seed_asked asked = if asked.size == settings_size then asked.seed else 1

-- C asks for these options of the peg tool
pub record PegMeant (asked : CSettings) (options : PegOptions) : Type 0 where
  pub raw : options.style.raw ≡ asked.raw
  pub escapes : options.style.escapes ≡ false
  pub whole : options.whole ≡ false
  pub budget : options.budget ≡ budget_asked asked
  pub line_buffered : options.line_buffered ≡ false

-- C asks for these options of the ABNF tool
pub record AbnfMeant (asked : CSettings) (options : AbnfOptions) : Type 0 where
  pub letters : alphabet_by asked.letters ≡ Some options.letters
  pub viable : options.viable ≡ asked.viable
  pub nul : options.nul ≡ asked.nul
  pub keeps : options.keeps ≡ false
  pub printed : options.printed ≡ Answers
  pub named : options.named ≡ false
  pub numbered : options.numbered ≡ false
  pub quiet : options.quiet ≡ false
  pub line_buffered : options.line_buffered ≡ false
  pub budget : options.budget ≡ budget_asked asked

-- C asks for these settings, by a struct of a size that is known. AreMeant says which options it asks for.
pub record IsMeant {O : Type 0} (AreMeant : CSettings → O → Type 0) (asked : CSettings) (name : List ℕ)
    (settings : Settings O) : Type 0 where
  pub size : is_known_size asked.size ≡ true
  pub mode : mode_by asked.mode ≡ Some settings.mode
  pub letters : IsSome (alphabet_by asked.letters)
  pub limit : settings.limit ≡ asked.limit
  pub start : option_copied settings.start ≡ name_by asked.named name
  pub explain : settings.explain ≡ asked.explain
  pub options : AreMeant asked settings.options

-- C asks for no settings: the struct has an unknown size, a number is out of its range, or the name is not UTF-8
pub data IsInvalid (asked : CSettings) (name : List ℕ) : Type 0 where
  other_size : is_known_size asked.size ≡ false → IsInvalid asked name
  no_mode : mode_by asked.mode ≡ None → IsInvalid asked name
  no_letters : alphabet_by asked.letters ≡ None → IsInvalid asked name
  too_small : asked.limit < 1 → IsInvalid asked name
  too_great : 16777216 < asked.limit → IsInvalid asked name
  no_text : asked.named ≡ true → (IsUtf8 name → ⊥) → IsInvalid asked name
