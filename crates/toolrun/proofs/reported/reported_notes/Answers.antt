-- No note is reported, or each with what explains it.
use Rattle.std.proofs.Common.{map}
use Rattle.ruletable.specs.Notes.{said_of}
use Rattle.toolrun.specs.ReportedNotes.{begun_notes, no_note}
use Rattle.toolrun.proofs.reported.reported_notes.Goals as goal

pub returns-in_default : goal.returns-in_default
returns-in_default g c = λ text found read. rw c.new.ensures.items (begun_notes (map said_of c.args.notes.now) no_note)

pub returns-in-Ok-positions : goal.returns-in-Ok-positions
returns-in-Ok-positions g c = λ text found read.
    c.reported_by.ensures text (c.in-Ok-positions.ensures.positions text found (c.in-Ok.ensures.rules text read))

pub returns : goal.returns
returns g c = λ text found read. rw c.new-in-Err.ensures.items (begun_notes (map said_of c.args.notes.now) no_note)
