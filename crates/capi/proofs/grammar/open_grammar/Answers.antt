-- The notes are reported, or the fault of the text.
use Rattle.std.proofs.Common.{map}
use Rattle.capi.proofs.CompareCallLemmas.{checked_is_open, notes_are_reported}
use Rattle.capi.proofs.grammar.open_grammar.Goals as goal
use Rattle.capi.specs.OpenCall.{not_read}
use Rattle.ruletable.specs.Notes.{said_of}

pub returns-in-Ok : goal.returns-in-Ok
returns-in-Ok c =
    let o = c.in-Ok.opened in
    let notes = map said_of o.notes.items in
    let text = c.args.text.now in
    let settings = c.args.settings.now in
    notes_are_reported text settings notes o.diagnostics.items c.grammar_of.result
    (checked_is_open text settings notes o.rules.rules o.judged c.grammar_of.result c.in-Ok.ensures.checked
    c.grammar_of.ensures) c.in-Ok.ensures.diagnostics

pub returns-in_ok-reported-in-Err : goal.returns-in_ok-reported-in-Err
returns-in_ok-reported-in-Err c = not_read c.in_ok-reported-in-Err.reported.items 2 c.in_ok-reported-in-Err.ensures
