-- The lines of the notes on a grammar.
use Rattle.std.specs.Prelude.{ℕ, List}
use Rattle.std.specs.List.{flat_map}
use Rattle.ruletable.specs.Notes.{Said, note_text}

-- their lines, one after the other
abbrev pub notes_text : List Said → List ℕ
notes_text notes = flat_map note_text notes
