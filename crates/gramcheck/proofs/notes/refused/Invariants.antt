-- Whether one of the notes rejects is decided by those that are left.
use Rattle.std.proofs.Common.{◌≡◌, map, drop}
use Rattle.std.specs.List.{list_any}
use Rattle.ruletable.specs.Notes.{said_of}
use Rattle.gramcheck.specs.GrammarNotes.{said_refuses}
use Rattle.gramcheck.proofs.notes.refused.Given as goal

abbrev pub invariant-loop-note : goal.invariant-loop-note
invariant-loop-note l = list_any said_refuses (map said_of l.notes) ≡ list_any said_refuses
    (map said_of (drop l.note-index l.notes))
