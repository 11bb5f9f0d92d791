-- The notes so far, and those on the names from the id on.
use Rattle.std.proofs.Common.{◌≡◌, ◌++◌, map, drop}
use Rattle.ruletable.specs.Rules.{names_of}
use Rattle.ruletable.specs.Notes.{said, said_of}
use Rattle.ruletable.specs.declared.note.NoteKind.TheVariants as kind
use Rattle.fixpoint.proofs.marked_notes.note_undefined.Given as goal

abbrev pub invariant-loop-id : goal.invariant-loop-id
invariant-loop-id l =
    map said_of l.notes.items ++ map (said kind.Undefined) (drop l.id (names_of l.names))
    ≡ map said_of l.initial.notes.items ++ map (said kind.Undefined) (drop l.count (names_of l.names))
