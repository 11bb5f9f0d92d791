-- The name at the id is noted.
use Rattle.std.proofs.Common.{ap}
use Rattle.ruletable.specs.Rules.{names_of}
use Rattle.ruletable.specs.Notes.{said}
use Rattle.ruletable.specs.declared.note.NoteKind.TheVariants as kind
use Rattle.fixpoint.proofs.ChosenLemmas.{note-next}
use Rattle.fixpoint.proofs.marked_notes.note_undefined.Goals as goal

pub loop-id-preserved : goal.loop-id-preserved
loop-id-preserved c =
    note-next (said kind.Undefined) (names_of c.args.names.now) c.loop-id.id c.name.result.now c.loop-id.notes.items
    c.push.new.self.items _ _ c.name.ensures c.in_ok-push.ensures.items
    (ap (said kind.Undefined) c.in_ok-name.ensures.items) c.loop-id.invariant
