-- What a call that judges a line returns.
use Rattle.std.specs.Prelude.{◌≡◌, ◌<◌, ◌≤◌, ℕ, List, length, Option, Some, None}
use Rattle.abnfread.specs.AbnfViews.{rules_of}
use Rattle.abnfrun.specs.AbnfReply.{IsAnswerTo, NeedsMoreItems}
use Rattle.abnfrun.specs.OpenJudge.{OpenJudge}
use Rattle.capi.specs.declared.answer.CAnswer.{CAnswer}
use Rattle.linejudge.specs.declared.answers.Answer.{Answer}
use Rattle.linejudge.specs.declared.answers.Answer.TheVariants.{Yes, No, NoAfter}

-- an answer as C has it: status 0 for yes, 1 for no, and the length of the longest viable prefix
abbrev pub c_answer : Answer → CAnswer
c_answer Yes = record { reached = 0; status = 0 }
c_answer No = record { reached = 0; status = 1 }
c_answer (NoAfter n) = record { reached = n; status = 1 }

-- an answer that has a status alone
abbrev pub c_status : ℕ → CAnswer
c_status code = record { reached = 0; status = code }

-- The call returns the line's answer; or the line is longer than the limit, it needs more items than the budget, an
-- allocation failed, or there is no judge.
pub data IsJudgeCall (line : List ℕ) (reported : CAnswer) : Option OpenJudge → Type 0 where
  answers : (judge : OpenJudge) (said : Answer) → length line ≤ judge.limit
      → IsAnswerTo judge.letters judge.viable (rules_of judge.grammar.rules) judge.grammar.judged line said
      → reported ≡ c_answer said → IsJudgeCall line reported (Some judge)
  overlong : (judge : OpenJudge) → judge.limit < length line → reported ≡ c_status 3
      → IsJudgeCall line reported (Some judge)
  costly : (judge : OpenJudge) (most : ℕ)
      → NeedsMoreItems judge.budget judge.letters judge.viable (rules_of judge.grammar.rules) judge.grammar.judged line
      most → reported ≡ c_status 7 → IsJudgeCall line reported (Some judge)
  no_memory : (judge : OpenJudge) → reported ≡ c_status 5 → IsJudgeCall line reported (Some judge)
  not_open : reported ≡ c_status 6 → IsJudgeCall line reported None
