-- The notes so far, with what explains them.
use Rattle.std.proofs.Common.{◌≡◌, ◌∙◌, ap, ◌++◌, List, ℕ, append_assoc, map, option_copied, subst}
use Rattle.std.proofs.lemmas.List.{take_all}
use Rattle.ruletable.specs.Notes.{note_text, said_of}
use Rattle.toolrun.specs.ReportedNotes.{AreNotesReported, no_note}
use Rattle.toolrun.proofs.ReportedNotesLemmas.{begun-here, begun-there, reported-there}
use Rattle.toolrun.proofs.reported.reported_by.Goals as goal

pub loop-note-init : goal.loop-note-init
loop-note-init g c = λ text positions. rw c.new-reported.ensures.items no_note

pub returns-in-Err : goal.returns-in-Err
returns-in-Err g c = λ text positions.
    rw c.in-Err.ensures.err (begun-here said_of c.args.notes.now c.loop-note.note-index
    c.loop-note.reported.items (c.loop-note.invariant text positions))

pub returns-in-Err-push_why : goal.returns-in-Err-push_why
returns-in-Err-push_why g c = λ text positions.
    let pushed = c.in-Ok.ensures.ok in
    rw (c.in-Err-push_why.ensures.err, pushed) (begun-there said_of c.args.notes.now c.loop-note.note-index
    c.loop-note.reported.items (c.loop-note.invariant text positions) c.note-item.result c.loop-note-test.true
    c.note-item.is)

pub loop-note-preserved : goal.loop-note-preserved
loop-note-preserved g c = λ text positions.
    let pushed = c.in-Ok.ensures.ok in
    let why = c.in-Ok-push_why.ensures.ok text positions in
    let items : c.push_why.new.reported.items ≡ c.loop-note.reported.items
    ++ (note_text (said_of c.note-item.result) ++ why.0) =
    why.2 ∙ ap (λ (z : List ℕ). z ++ why.0) pushed
    ∙ append_assoc c.loop-note.reported.items (note_text (said_of c.note-item.result)) why.0 in
    rw items (reported-there said_of c.args.notes.now c.loop-note.note-index c.loop-note.reported.items
    (c.loop-note.invariant text positions) c.note-item.result why.0 c.loop-note-test.true c.note-item.is why.1)

pub returns : goal.returns
returns g c = λ text positions.
    subst (λ v. AreNotesReported (g.L.Language.explains_note text (option_copied c.args.start)) (map said_of v)
    c.loop-note.reported.items) (take_all c.loop-note.note-index c.args.notes.now c.loop-note-test.false)
    (c.loop-note.invariant text positions)
