-- The hints on the grammar of a text, as settings ask for them.
use Rattle.std.specs.Prelude.{ℕ, Bool, cond, if◌then◌else◌, nat_lt, List, length, Option, Some, None}
use Rattle.ruletable.specs.Letters.{has}
use Rattle.abnfread.specs.AbnfReading.{Reads}
use Rattle.abnfread.specs.Element.{Definition, Rule}
use Rattle.abnfhints.specs.AbnfHints.{AreAbnfHints}
use Rattle.abnfhints.specs.declared.line_end.LineEnd.{LineEnd}
use Rattle.abnfhints.specs.declared.line_end.LineEnd.TheVariants.{Lf, Nul}
use Rattle.abnfprint.specs.AbnfReadBack.{file_rules}
use Rattle.abnfrun.specs.AbnfNoted.{all_rules, judged_of, rule_given}
use Rattle.abnfrun.specs.AbnfSettings.{AbnfSettings}

-- an id, if a rule has it
abbrev pub id_of_rule : List Rule → ℕ → Option ℕ
id_of_rule rules id = if nat_lt id (length rules) then Some id else None

-- The rule that is reported if it derives no line: the judged one. If the end of a line is judged with it, there is
-- none, since a line may then hold that byte.
abbrev pub hinted_rule : Bool → Option ℕ → Option ℕ
hinted_rule keeps judged = cond keeps None judged

-- the byte that ends lines: NUL, if settings ask for it
abbrev pub end_for : Bool → LineEnd
end_for nul = cond nul Nul Lf

-- the hints on the grammar of a text: on its rules for the symbols and the ends of lines that settings ask for
pub record AreTextHints (text : List ℕ) (settings : AbnfSettings) (hints : List ℕ) : Type 0 where
  pub definitions : List Definition
  pub reads : Reads text definitions
  pub are_hints : AreAbnfHints (has settings.options.letters) (all_rules definitions) (length (file_rules definitions))
      (hinted_rule settings.options.keeps (id_of_rule (all_rules definitions)
      (judged_of definitions (rule_given settings)))) (end_for settings.options.nul) text hints
