-- What a run of a grammar on an input states.
use Prim.Native.Char.{code}
use Rattle.std.specs.Prelude.{◌≡◌, ℕ, Bool, true, false, cond, List, Option, None, Some, take}
use Rattle.abnfread.specs.Element.{Rule}
use Rattle.abnfcheck.specs.Prefixes.{IsFurthest}
use Rattle.abnfcheck.specs.Derivable.{RuleDerives}
use Rattle.abnfprint.specs.CanonicalAbnf.{grammar_text}
use Rattle.earleyitems.specs.ChartSets.{HaveMoreItems}
use Rattle.flatgrammar.specs.Flat.{Flat}
use Rattle.ruletable.specs.Letters.{has}
use Rattle.ruletable.specs.Utf8Text.{IsLongestText, Spells}
use Rattle.ruletable.specs.declared.alphabet.Alphabet.{Alphabet}
use Rattle.ruletable.specs.declared.alphabet.Alphabet.TheVariants.{Bytes, Utf8}
use Rattle.linejudge.specs.InputLines.{kept_size}
use Rattle.linejudge.specs.LineRefusals.{LinesReply, LinesStates}
use Rattle.linejudge.specs.declared.answers.Answer.{Answer}
use Rattle.linejudge.specs.declared.line.LineForm.{LineForm}
use Rattle.linejudge.specs.declared.printed.Printed.{Printed}
use Rattle.linejudge.specs.declared.printed.Printed.TheVariants.{Nothing}
use Rattle.linejudge.specs.declared.answers.Answer.TheVariants.{Yes, No, NoAfter}
use Rattle.lowering.specs.GivenPrefixes.{GivesPrefixes}
use Rattle.lowering.specs.Lowered.{IsLowered}
use Rattle.refusedlines.specs.Refusals.{IsRefusalReported}
use Rattle.refusedlines.specs.declared.refusal.LineUnit.{LineUnit}
use Rattle.refusedlines.specs.declared.refusal.LineUnit.TheVariants.{Line, Record}
use Rattle.toolrun.specs.Input.{Input}
use Rattle.toolrun.specs.Reply.{Reply, text_alone}
use Rattle.abnfrun.specs.AbnfSettings.{AbnfSettings}

-- the canonical text of these rules is written, and nothing is taken
abbrev pub printed_rules : List Rule → Reply
printed_rules rules = text_alone (grammar_text rules)

-- The lines that the judged rule derives (RFC 5234, section 3; RFC 7405, section 2.1). Their symbols are bytes, or the
-- code points of UTF-8 (RFC 3629, section 3): then a line that is not UTF-8 is none of them.
abbrev pub IsMember : Alphabet → List Rule → ℕ → List ℕ → Type 0
IsMember Bytes rules judged line = RuleDerives (has Bytes) rules judged line
IsMember Utf8 rules judged line = (points : List ℕ) × Spells points line × RuleDerives (has Utf8) rules judged points

-- The symbols of a line: its bytes, or the code points of its longest prefix that is UTF-8, which is the whole line if
-- the line is UTF-8.
abbrev pub AreLettersOf : Alphabet → List ℕ → List ℕ → Type 0
AreLettersOf Bytes line x = x ≡ line
AreLettersOf Utf8 line x = (k : ℕ) × IsLongestText line k × Spells x (take k line)

-- the longest viable prefix of a line's symbols has n symbols
pub record Reaches (letters : Alphabet) (rules : List Rule) (judged : ℕ) (line : List ℕ) (n : ℕ) : Type 0 where
  pub of_line : List ℕ
  pub are : AreLettersOf letters line of_line
  pub furthest : IsFurthest (has letters) rules judged of_line n

-- The answer to a line: yes exactly if the judged rule derives it. If the longest viable prefix is asked for, a no has
-- its length.
abbrev pub IsAnswerTo : Alphabet → Bool → List Rule → ℕ → List ℕ → Answer → Type 0
IsAnswerTo letters viable rules judged line Yes = IsMember letters rules judged line
IsAnswerTo letters viable rules judged line No = (viable ≡ false) × (IsMember letters rules judged line → ⊥)
IsAnswerTo letters viable rules judged line (NoAfter n) = (viable ≡ true) × (IsMember letters rules judged line → ⊥)
    × Reaches letters rules judged line n

-- the answers to lines that settings ask for
abbrev pub AnswersFor : List Rule → ℕ → AbnfSettings → List ℕ → Answer → Type 0
AnswersFor rules judged settings = IsAnswerTo settings.options.letters settings.options.viable rules judged

-- a flat grammar that answers for the judged rule; where the longest viable prefix is asked for, for its prefixes too
abbrev pub AnswersBy : Alphabet → Bool → List Rule → ℕ → Flat → Type 0
AnswersBy letters false rules judged flat = ∥ IsLowered rules judged flat ∥₁
AnswersBy letters true rules judged flat = ∥ GivesPrefixes (has letters) rules judged flat ∥₁

-- The Earley sets of these symbols, by a flat grammar of the rules, have more than n items, and n is the budget.
pub record HaveMoreThan (budget : Option ℕ) (letters : Alphabet) (viable : Bool) (rules : List Rule) (judged : ℕ)
    (of_line : List ℕ) (n : ℕ) : Type 0 where
  pub is_budget : budget ≡ Some n
  pub flat : Flat
  pub answers : AnswersBy letters viable rules judged flat
  pub more : HaveMoreItems flat of_line n

-- a line needs more than n items: the sets of its symbols have more, and n is the budget
pub record NeedsMoreItems (budget : Option ℕ) (letters : Alphabet) (viable : Bool) (rules : List Rule) (judged : ℕ)
    (line : List ℕ) (n : ℕ) : Type 0 where
  pub of_line : List ℕ
  pub are : AreLettersOf letters line of_line
  pub more : HaveMoreThan budget letters viable rules judged of_line n

-- the lines that need more items than the budget of settings
abbrev pub CostlyFor : List Rule → ℕ → AbnfSettings → List ℕ → ℕ → Type 0
CostlyFor rules judged settings = NeedsMoreItems settings.options.budget settings.options.letters
    settings.options.viable rules judged

-- nothing is printed by a quiet run
abbrev pub printed_by : Bool → Printed → Printed
printed_by quiet printed = cond quiet Nothing printed

-- how settings cut an input into lines, at LF, or at NUL if they ask for it; whether that end is judged with its line;
-- what they print for the lines, and the name before that; whether the run stops after a rejected one, and whether each
-- line is answered at once
abbrev pub form_of : AbnfSettings → LineForm
form_of settings = record {
  limit = settings.limit;
  end = cond settings.options.nul 0 (code "\n");
  keeps = settings.options.keeps;
  printed = printed_by settings.options.quiet settings.options.printed;
  name = cond settings.options.named (Some settings.input) None;
  numbered = settings.options.numbered;
  stops = settings.options.quiet;
  line_buffered = settings.options.line_buffered;
}

-- how many bytes settings let be judged of a line that has an end, and so many bytes before it
abbrev pub judged_size : AbnfSettings → ℕ → ℕ
judged_size settings = kept_size (form_of settings)

-- what is rejected: records, if NUL ends them
abbrev pub unit_for : Bool → LineUnit
unit_for nul = cond nul Record Line

-- what explains a rejected line of that number
abbrev pub RefusalFor : List Rule → ℕ → AbnfSettings → List ℕ → ℕ → List ℕ → Type 0
RefusalFor rules judged settings =
    IsRefusalReported (unit_for settings.options.nul) settings.options.letters rules judged

-- each line of the input is judged by that rule, and the first rejected ones are explained if that is asked; no
-- allocation fails
abbrev pub JudgeReplies : List Rule → ℕ → AbnfSettings → Input → Reply → Type 0
JudgeReplies rules judged settings input reply = LinesReply (AnswersFor rules judged settings) settings.explain
    (RefusalFor rules judged settings) (CostlyFor rules judged settings) (form_of settings) input reply

-- so it is, or the first lines are if an allocation fails
abbrev pub JudgeReply : List Rule → ℕ → AbnfSettings → Input → Reply → Type 0
JudgeReply rules judged settings input reply = LinesStates (AnswersFor rules judged settings) settings.explain
    (RefusalFor rules judged settings) (CostlyFor rules judged settings) (form_of settings) input reply
