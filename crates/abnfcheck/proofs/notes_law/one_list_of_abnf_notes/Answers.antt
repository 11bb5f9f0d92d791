use Rattle.abnfcheck.proofs.AbnfNotesLemmas.{notes_same}
use Rattle.abnfcheck.proofs.notes_law.one_list_of_abnf_notes.Goals as goal

pub returns : goal.returns
returns c = notes_same
