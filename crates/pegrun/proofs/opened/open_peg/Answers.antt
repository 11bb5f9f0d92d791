-- The grammar is the one that was checked, ready to run.
use Rattle.std.proofs.Common.{map}
use Rattle.pegrun.proofs.OpenPegLemmas.{is_opened}
use Rattle.pegrun.proofs.opened.open_peg.Goals as goal
use Rattle.pegrun.specs.Noted.{start_given}
use Rattle.ruletable.specs.Notes.{said_of}

pub returns-in-Ok-clause-opened : goal.returns-in-Ok-clause-opened
returns-in-Ok-clause-opened c =
    let settings = c.args.settings.now in
    let notes = map said_of c.in_ok-notes.field-0.notes.items in
    is_opened c.args.text.now settings notes c.in-Ok.grammar (c.in-Ok.ensures c.args.text.now (start_given settings)
    notes (rw c.in-Some.is at c.in_ok-notes.ensures.checked))
