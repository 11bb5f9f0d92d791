-- The grammar is rejected, or lines are judged by it.
use Rattle.std.proofs.Common.{map}
use Rattle.abnfrun.proofs.OpenAbnfLemmas.{judge_is_opened, refused_is_opened}
use Rattle.abnfrun.proofs.opened.open_abnf.Goals as goal
use Rattle.ruletable.specs.Notes.{said_of}

pub returns-in_default-clause-opened : goal.returns-in_default-clause-opened
returns-in_default-clause-opened c =
    let o = c.in_ok-notes.field-0 in
    refused_is_opened c.args.text.now c.args.settings.now (map said_of o.notes.items) o.rules.rules o.judged
    c.in_ok-notes.ensures.checked c.in_default.is

pub returns-in-Ok-clause-opened : goal.returns-in-Ok-clause-opened
returns-in-Ok-clause-opened c =
    let o = c.in_ok-notes.field-0 in
    judge_is_opened c.args.text.now c.args.settings.now (map said_of o.notes.items) o.rules.rules o.judged
    c.in-Some.judged c.new-grammar.result c.in-Ok.judge c.in_ok-notes.ensures.checked c.in-Some.is
    c.new-grammar.ensures.rules c.new-grammar.ensures.judged c.in-Ok.ensures
