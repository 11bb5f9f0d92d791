-- An allocation failed before the first line, or the lines were judged.
use Rattle.abnfread.specs.AbnfViews.{rules_of}
use Rattle.abnfrun.specs.AbnfReply.{AnswersFor, CostlyFor, RefusalFor, form_of}
use Rattle.linejudge.proofs.LineRunLemmas.{no_line_was_run}
use Rattle.abnfrun.proofs.abnf_language.AbnfLanguageLanguage.run.Goals as goal

pub returns-in_default : goal.returns-in_default
returns-in_default g c =
    let s = c.args.settings.now in
    let rules = rules_of c.args.grammar.now.rules in
    let judged = c.args.grammar.now.judged in
    no_line_was_run (AnswersFor rules judged s) s.explain (RefusalFor rules judged s) (CostlyFor rules judged s)
    (form_of s)
    (c.lines_have_answers.ensures s.options.letters s.options.viable rules judged) _ _ _ _ _

pub returns : goal.returns
returns g c = rw (c.line_form.ensures, c.line_unit.ensures) at c.run_lines.ensures
