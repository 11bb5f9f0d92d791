-- The notes and rules are those of the text.
use Rattle.std.proofs.Common.{map}
use Rattle.std.specs.Prelude.{option_copied}
use Rattle.abnfd.proofs.OpenedSideLemmas.{opened_is_side}
use Rattle.abnfrun.proofs.AllRulesLemmas.{is_checked}
use Rattle.ruletable.specs.Notes.{said_of}
use Rattle.abnfd.proofs.side.checked_side.Goals as goal

pub returns : goal.returns
returns c = λ text is.
    let read = c.args.abnf in
    let found = c.in_ok-notes.field-0 in
    let given = option_copied c.args.rule in
    rw (rw c.as_slice.ensures.value at c.in_ok-reported.ensures)
    (opened_is_side c.args.side.now text given (map said_of found.notes.items) found.all.rules found.judged
    c.grammar_of.result
    (is_checked text given read.rules read.core found.all.rules read.redefined.items read.extended.items
    (map said_of found.notes.items) found.judged is.0 is.1 c.in_ok-notes.ensures.rules c.in_ok-notes.ensures.notes
    c.in_ok-notes.ensures.judged) c.grammar_of.ensures)
