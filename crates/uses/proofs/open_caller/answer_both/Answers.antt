-- The law of open grammars, for each line.
use Rattle.std.proofs.Common.{◌≡◌, ◌≤◌, ℕ, false, List, [], Some, length, refl}
use Rattle.abnfrun.specs.AbnfExplainedNotes.{ExplainsAbnfNote}
use Rattle.abnfread.specs.AbnfViews.{rules_of}
use Rattle.abnfrun.proofs.OpenAbnfLemmas.{open_states}
use Rattle.abnfrun.specs.AbnfReply.{IsAnswerTo}
use Rattle.abnfrun.specs.AbnfTextHints.{AreTextHints}
use Rattle.abnfrun.specs.OpenAbnf.{IsOpened, judged_line}
use Rattle.abnfrun.specs.OpenJudge.{OpenJudge}
use Rattle.uses.specs.AnswersAlone.{AnswersAlone}
use Rattle.linejudge.specs.declared.answers.Answer.{Answer}
use Rattle.ruletable.specs.Notes.{Said}
use Rattle.toolrun.proofs.ReportedNotesLemmas.{hinted-plain}
use Rattle.toolrun.specs.NotesText.{notes_text}
use Rattle.abnfrun.specs.AbnfSettings.{AbnfSettings}
use Rattle.uses.proofs.open_caller.answer_both.Goals as goal

module _ (text : List ℕ) (settings : AbnfSettings) (notes : List Said) (judge : OpenJudge)
    (is : IsOpened text settings notes (Some judge)) (line : List ℕ) (within : length line ≤ settings.limit)
    (said : Answer)
    (answers : IsAnswerTo judge.letters judge.viable (rules_of judge.grammar.rules) judge.grammar.judged line said)
  where
    line_is_within : settings.options.keeps ≡ false → length (judged_line settings line) ≤ judge.limit
    line_is_within without = rw (is.ready.1.limit, without) within

    answers_alone : AnswersAlone text settings line said
    answers_alone = λ run plain without one. (
      notes_text notes,
      open_states text line settings notes (notes_text notes) judge said [] run is
          (hinted-plain settings (ExplainsAbnfNote text) (AreTextHints text settings) plain notes) one
          (line_is_within without) (rw without answers) (rw plain refl),
    )

pub returns-clause-first : goal.returns-clause-first
returns-clause-first c =
    answers_alone _ _ _ c.in-Some.judge (rw c.in-Some.is at c.in-Ok.ensures.opened) c.args.first.now
    c.requires.first_within c.in-Ok-judge.one c.in-Ok-judge.ensures.answer

pub returns-clause-second : goal.returns-clause-second
returns-clause-second c =
    answers_alone _ _ _ c.in-Some.judge (rw c.in-Some.is at c.in-Ok.ensures.opened) c.args.second.now
    c.requires.second_within c.in-Ok-judge-2.other (rw c.in-Ok-judge.ensures.same at c.in-Ok-judge-2.ensures.answer)
