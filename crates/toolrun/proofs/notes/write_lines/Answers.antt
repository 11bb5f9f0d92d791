-- A part of one note's line after those before it.
use Rattle.std.proofs.Common.{add-one, ◌∙◌}
use Rattle.std.proofs.lemmas.List.{take_all}
use Rattle.ruletable.specs.Notes.{note_text, said_of}
use Rattle.ruletable.proofs.AppendsLemmas.{Appends-join, AppendsPart-at}
use Rattle.toolrun.proofs.NotesTextLemmas.{text-of-notes, flat_map-next}
use Rattle.toolrun.proofs.notes.write_lines.Goals as goal

pub loop-note-preserved : goal.loop-note-preserved
loop-note-preserved g c = record {
  taken = rw (
    add-one c.loop-note.note-index,
    flat_map-next (λ n. note_text
        (said_of n)) c.args.notes.now c.loop-note.note-index c.note-item.result c.note-item.is c.loop-note-test.true,
  )
      (Appends-join _ _ _ _ _ c.loop-note.invariant.taken c.in-Ok.ensures.bytes);
  flag = c.in-Ok.ensures.flag ∙ c.loop-note.invariant.flag;
}

pub returns-in-Err-clause-bytes : goal.returns-in-Err-clause-bytes
returns-in-Err-clause-bytes g c = rw (text-of-notes c.args.notes.now)
    (AppendsPart-at (λ n. note_text (said_of n)) c.args.notes.now c.loop-note.note-index c.note-item.result _ _ _
    c.loop-note-test.true c.loop-note.invariant.taken
    (rw (← c.note-item.is) c.in-Err.ensures.bytes))

pub returns-clause-bytes : goal.returns-clause-bytes
returns-clause-bytes g c = rw (text-of-notes c.args.notes.now)
    (rw (take_all c.loop-note.note-index c.args.notes.now c.loop-note-test.false) at c.loop-note.invariant.taken)
