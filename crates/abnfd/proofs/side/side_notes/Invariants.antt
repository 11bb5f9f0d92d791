use Rattle.std.proofs.Common.{◌≡◌, map, take}
use Rattle.abnfd.specs.ComparedSides.{side_notes}
use Rattle.ruletable.specs.Notes.{said_of}
use Rattle.abnfd.proofs.side.side_notes.Given as goal

abbrev pub invariant-loop-note : goal.invariant-loop-note
invariant-loop-note l = l.text.items ≡ side_notes l.side (map said_of (take l.note-index l.notes))
