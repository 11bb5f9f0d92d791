-- The notes are on the rules of the text.
use Rattle.std.proofs.Common.{map, option_copied}
use Rattle.ruletable.specs.Notes.{said_of}
use Rattle.abnfrun.proofs.AbnfExplainedNotesLemmas.{rules_are_all}
use Rattle.abnfrun.proofs.AllRulesLemmas.{is_checked}
use Rattle.abnfrun.proofs.abnf_language.AbnfLanguageLanguage.check.Goals as goal

pub returns-clause-checked : goal.returns-clause-checked
returns-clause-checked c = λ text is.
    let read = c.args.grammar in
    let found = c.in_ok-notes.field-0 in
    is_checked text (option_copied c.args.start) read.rules read.core found.all.rules read.redefined.items
    read.extended.items (map said_of found.notes.items) found.judged is.0 is.1 c.in_ok-notes.ensures.rules
    c.in_ok-notes.ensures.notes c.in_ok-notes.ensures.judged

pub returns-clause-rules : goal.returns-clause-rules
returns-clause-rules c = λ text is.
    let read = c.args.grammar in
    let found = c.in_ok-notes.field-0 in
    rules_are_all text read.rules read.core _ _ found.all.rules found.all.count c.in_ok-notes.ensures.count is.0 is.1
    c.in_ok-notes.ensures.rules
