-- One kind of notes alone.
use Rattle.std.proofs.Common.{map, sym}
use Rattle.ruletable.specs.Notes.{said_of}
use Rattle.pegread.specs.PegViews.{rules_of}
use Rattle.gramcheck.proofs.RuleNameLemmas.{names-same}
use Rattle.gramcheck.proofs.AreNotesLemmas.{redefinitions-are}
use Rattle.gramcheck.proofs.notes.redefinitions.Goals as goal

pub returns : goal.returns
returns c =
    let t = c.args.peg.now.rules in
    let noted = rw (c.deref.ensures.value, c.new-notes.ensures.items, sym (names-same t)) at
    c.in_ok-note_redefined.ensures in
    redefinitions-are (rules_of t) c.args.peg.now.redefined.items noted.0
    (map said_of c.note_redefined.new.notes.items) noted.1 noted.2
