use Rattle.std.proofs.Common.{ℕ, List, map, take, option_copied}
use Rattle.ruletable.specs.Notes.{said_of}
use Rattle.toolrun.specs.ReportedNotes.{AreNotesReported}
use Rattle.toolrun.proofs.reported.reported_by.Given as goal

abbrev pub invariant-loop-note : goal.invariant-loop-note
invariant-loop-note g l = (text : List ℕ)
    → g.L.Language.are_positions text (option_copied l.start) l.positions
    → AreNotesReported (g.L.Language.explains_note text (option_copied l.start))
    (map said_of (take l.note-index l.notes))
    l.reported.items
