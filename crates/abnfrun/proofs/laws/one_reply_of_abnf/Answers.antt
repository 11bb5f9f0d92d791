use Rattle.abnfrun.specs.AbnfReply.{AnswersFor, CostlyFor, RefusalFor, form_of, unit_for}
use Rattle.abnfrun.proofs.AbnfStatesLemmas.{never_costly}
use Rattle.abnfrun.proofs.IsAnswerToLemmas.{one_answer}
use Rattle.abnfrun.proofs.laws.one_reply_of_abnf.Goals as goal
use Rattle.linejudge.proofs.LinesReplyLemmas.{one_lines_reply}

pub returns : goal.returns
returns c = λ rules judged settings input a b free.
    one_lines_reply (AnswersFor rules judged settings)
    (λ line. one_answer c.utf8_is_decided.ensures.one c.furthest_is_found.ensures.one settings.options.letters rules
    judged line
    settings.options.viable) (CostlyFor rules judged settings) (never_costly rules judged settings free)
    (form_of settings) input settings.explain (RefusalFor rules judged settings)
    (c.refusal_is_one.ensures (unit_for settings.options.nul) settings.options.letters rules judged) a b
