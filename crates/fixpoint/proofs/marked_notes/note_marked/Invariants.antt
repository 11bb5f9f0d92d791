-- The notes so far, and those on the marked rules from the id on.
use Rattle.std.proofs.Common.{◌≡◌, ◌++◌, map, drop}
use Rattle.ruletable.specs.Rules.{names_of}
use Rattle.ruletable.specs.Notes.{said, said_of}
use Rattle.fixpoint.specs.IdMarks.{chosen}
use Rattle.fixpoint.proofs.marked_notes.note_marked.Given as goal

abbrev pub invariant-loop-id : goal.invariant-loop-id
invariant-loop-id g l =
    map said_of l.notes.items ++ map (said l.kind) (chosen (drop l.id l.marks) (drop l.id (names_of l.rules))) ≡
    map said_of l.initial.notes.items ++ map (said l.kind) (chosen l.marks (names_of l.rules))
