-- The marked rules are those that are defined again.
use Rattle.std.proofs.Common.{map}
use Rattle.ruletable.specs.Notes.{said_of}
use Rattle.abnfrun.proofs.AreRedefinitionsLemmas.{are_redefined}
use Rattle.abnfrun.proofs.abnf_language.redefined_in.Goals as goal

pub returns : goal.returns
returns c =
    are_redefined c.args.abnf.now.rules c.args.abnf.now.redefined.items c.in_ok-marks.marks.items
    (map said_of c.note_marked.new.notes.items)
    (rw (c.deref.ensures.value, c.len.ensures.len) at c.in_ok-marks.ensures)
    (rw (c.deref-2.ensures.value, c.new-notes.ensures.items) at c.in_ok-note_marked.ensures)
