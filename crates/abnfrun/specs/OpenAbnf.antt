-- What opening a grammar's text gives.
use Rattle.std.specs.Prelude.{◌≡◌, ℕ, false, List, [], ◌∷◌, ◌++◌, length, Option, MatchOption, ◌+◌}
use Rattle.abnfread.specs.AbnfReading.{Reads}
use Rattle.abnfread.specs.AbnfViews.{rules_of}
use Rattle.abnfread.specs.Element.{Definition}
use Rattle.abnfrun.specs.AbnfNoted.{all_rules, judged_of, AreNotesOn, IsRefusedFor, rule_given}
use Rattle.abnfrun.specs.AbnfReply.{IsAnswerTo, form_of, judged_size, unit_for}
use Rattle.abnfrun.specs.OpenJudge.{OpenJudge}
use Rattle.linejudge.specs.InputLines.{at_front, next_position, kept_line, printed_last, printed_line, refused_by}
use Rattle.linejudge.specs.InputLines.{status_after}
use Rattle.linejudge.specs.LineRefusals.{ReportsLine}
use Rattle.linejudge.specs.declared.answers.Answer.{Answer}
use Rattle.refusedlines.specs.Refusals.{IsRefusalReported}
use Rattle.ruletable.specs.Notes.{Said}
use Rattle.toolrun.specs.Input.{Input}
use Rattle.toolrun.specs.Reply.{Reply}
use Rattle.toolrun.specs.Status.{code_of}
use Rattle.abnfrun.specs.AbnfSettings.{AbnfSettings}

-- lines are judged by the rules of these definitions, the core rules after them, as settings ask
pub record IsJudgeOf (definitions : List Definition) (settings : AbnfSettings) (judge : OpenJudge) : Type 0 where
  pub rules : rules_of judge.grammar.rules ≡ all_rules definitions
  pub judged : judge.grammar.judged ≡ judged_of definitions (rule_given settings)
  pub letters : judge.letters ≡ settings.options.letters
  pub viable : judge.viable ≡ settings.options.viable
  pub budget : judge.budget ≡ settings.options.budget
  pub limit : judge.limit ≡ judged_size settings settings.limit

-- The text is a grammar with these notes, which reject it; or lines are judged by it.
pub record IsOpened (text : List ℕ) (settings : AbnfSettings) (notes : List Said)
    (judge : Option OpenJudge) : Type 0 where
  pub definitions : List Definition
  pub reads : Reads text definitions
  pub are_notes : AreNotesOn definitions (rule_given settings) notes
  pub ready : MatchOption judge (IsRefusedFor definitions (rule_given settings))
      (λ j. (IsRefusedFor definitions (rule_given settings) → ⊥) × IsJudgeOf definitions settings j)

-- the input that is one line with its end
abbrev pub line_alone : AbnfSettings → List ℕ → Input
line_alone settings line = record { bytes = line ++ (form_of settings).end ∷ []; fault = false }

-- the explanation of the line with that answer, if it is rejected and explanations are asked for
abbrev pub ReportsAlone : OpenJudge → AbnfSettings → List ℕ → Answer → List ℕ → Type 0
ReportsAlone judge settings = ReportsLine
    (IsAnswerTo judge.letters judge.viable (rules_of judge.grammar.rules) judge.grammar.judged) settings.explain
    (IsRefusalReported (unit_for settings.options.nul) judge.letters (rules_of judge.grammar.rules)
    judge.grammar.judged) at_front

-- what is judged of that line: the line, or the line with its end, if settings ask for it
abbrev pub judged_line : AbnfSettings → List ℕ → List ℕ
judged_line settings = kept_line (form_of settings)

-- the reply to the input that is one line: what is printed for that answer, and its explanation
abbrev pub answer_alone : AbnfSettings → List ℕ → Answer → List ℕ → Reply
answer_alone settings line said reported = record {
  out = printed_line (form_of settings) 1 (judged_line settings line) said
      ++ printed_last (form_of settings).name (form_of settings).printed
      (next_position at_front (length line + 1) said);
  err = reported;
  status = code_of (status_after (refused_by said));
  taken = length line + 1;
}
