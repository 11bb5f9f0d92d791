-- Nothing is reported, or all notes are, with hints or without.
use Rattle.std.proofs.Common.{map}
use Rattle.ruletable.specs.Notes.{said_of}
use Rattle.toolrun.specs.ReportedNotes.{begun_notes, no_note}
use Rattle.toolrun.proofs.ReportedNotesLemmas.{begun-whole}
use Rattle.toolrun.proofs.reported.reported_hints.Goals as goal

pub returns-in_default : goal.returns-in_default
returns-in_default g c = λ text found are. rw c.new.ensures.items (begun_notes (map said_of c.args.notes.now) no_note)

pub returns-in-Err : goal.returns-in-Err
returns-in-Err g c = λ text found are.
    let reported = (let t = c.reported_by.ensures text (c.in-Ok.ensures.positions text found are) in
    rw c.in-Whole.is at t) in
    rw c.in-Err.ensures.err (begun-whole reported)
