use Rattle.gramcheck.proofs.AreNotesLemmas.{notes-one}
use Rattle.gramcheck.proofs.notes.one_list_of_notes.Goals as goal

pub returns : goal.returns
returns c = notes-one
