-- What is stated is what a text's grammar was read, checked, printed or run for.
use Rattle.abnfread.specs.AbnfViews.{rules_of}
use Rattle.abnfrun.specs.AbnfAnswers.{refused, unexplained, noted, checked, judges, cut_notes, again}
use Rattle.abnfrun.specs.AbnfAnswers.{cut_again, printed, no_memory}
use Rattle.abnfrun.specs.AbnfReply.{AnswersFor, CostlyFor, RefusalFor, form_of}
use Rattle.linejudge.proofs.LineRunLemmas.{some_states}
use Rattle.abnfrun.proofs.abnf_language.AbnfLanguageLanguage.follows.Goals as goal

pub returns : goal.returns
returns c = record {
  refused = λ text settings input fault why is other reported. refused fault why is other reported;
  unexplained = λ text settings input fault is other asked. unexplained fault is other asked;
  within = λ text abnf is. let reads = is.0.1 in reads.size;
  within_checked = λ text start notes rules judged is. is.reads.size;
  no_memory = λ text settings input within. no_memory within;
  noted = λ text settings input notes reported rules is reports other.
      noted is.definitions notes reported is.reads is.are_notes reports is.ready other;
  checked = λ text settings input notes reported rules judged is reports check.
      checked is.definitions notes reported is.reads is.are_notes reports is.ready.0 check;
  run = λ text settings input notes reported sound reply is reports run states.
      let kept = is.kept in let at = is.ready.1 in
      judges is.definitions notes reported reply is.reads is.are_notes reports is.ready.0 run (rw (kept, at) at states);
  replies = λ text settings input notes sound is.
      some_states (AnswersFor (rules_of sound.rules) sound.judged settings) settings.explain
      (RefusalFor (rules_of sound.rules) sound.judged settings)
      (CostlyFor (rules_of sound.rules) sound.judged settings) (form_of settings)
      (c.lines_have_answers.ensures settings.options.letters settings.options.viable (rules_of sound.rules)
      sound.judged) input;
  cut_notes = λ text settings input notes reported rules judged is cut other.
      cut_notes is.definitions notes reported is.reads is.are_notes cut other;
  again = λ text settings input abnf notes reported is some reports print.
      again is.definitions notes reported is.reads is.are_again reports some print;
  cut_again = λ text settings input abnf notes reported is some cut print.
      cut_again is.definitions notes reported is.reads is.are_again cut print;
  printed = λ text settings input abnf is print.
      let kept = is.kept in rw kept (printed is.definitions is.reads is.are_again print);
}
