-- Notes on a grammar, and the line of each.
use Rattle.std.specs.Prelude.{ℕ, List, ◌++◌, codes}
use Rattle.ruletable.specs.declared.note.Note.{Note}
use Rattle.ruletable.specs.declared.note.NoteKind.{NoteKind}
use Rattle.ruletable.specs.declared.note.NoteKind.TheVariants.{Redefined, ExtendedEarly, Undefined, Prose, Unused}
use Rattle.ruletable.specs.declared.note.NoteKind.TheVariants.{LeftRecursion, Loop}

-- what a note says: its kind, and the name of which it speaks
pub record Said : Type 0 where
  pub kind : NoteKind
  pub name : List ℕ

abbrev pub said : NoteKind → List ℕ → Said
said kind name = record { kind = kind; name = name }

-- what the code's note says
abbrev pub said_of : Note → Said
said_of note = said note.kind note.name.items

-- the text before the name
abbrev pub text_before : NoteKind → List ℕ
text_before Redefined = codes "rule '"
text_before ExtendedEarly = codes "rule '"
text_before Undefined = codes "rule '"
text_before Prose = codes "prose in rule '"
text_before Unused = codes "rule '"
text_before LeftRecursion = codes "possible infinite left recursion in rule '"
text_before Loop = codes "possible infinite loop in rule '"

-- the text after the name, with LF
abbrev pub text_after : NoteKind → List ℕ
text_after Redefined = codes "' redefined\n"
text_after ExtendedEarly = codes "' extended before it is defined\n"
text_after Undefined = codes "' used but not defined\n"
text_after Prose = codes "'\n"
text_after Unused = codes "' defined but not used\n"
text_after LeftRecursion = codes "'\n"
text_after Loop = codes "'\n"

-- the line on standard error
abbrev pub note_text : Said → List ℕ
note_text note = text_before note.kind ++ (note.name ++ text_after note.kind)
