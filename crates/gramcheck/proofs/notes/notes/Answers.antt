-- The five kinds, one after another.
use Rattle.std.proofs.Common.{map, refl, sym, ap}
use Rattle.std.specs.Prelude.{option_copied}
use Rattle.ruletable.specs.Notes.{said_of}
use Rattle.fixpoint.proofs.ChosenLemmas.{one_by_one}
use Rattle.pegread.specs.PegViews.{rules_of}
use Rattle.gramcheck.proofs.RuleNameLemmas.{names-same}
use Rattle.gramcheck.proofs.AreNotesLemmas.{are-notes}
use Rattle.gramcheck.proofs.notes.notes.Goals as goal

pub returns : goal.returns
returns c = λ lefts loops.
    let t = c.args.rules.now in
    let names = sym (names-same t) in
    let again = rw names at c.in_ok-note_redefined.ensures in
    let uses = rw names at c.in_ok-note_uses.ensures in
    let recursive_notes = rw names at c.in_ok-note_marked.ensures in
    let looping_notes = rw names at c.in_ok-note_marked-2.ensures in
    let all = map said_of c.note_marked-2.new.notes.items in
    are-notes (rules_of t) (option_copied c.args.start) c.args.redefined.now again.0 uses.0 c.args.recursive.now
    c.args.looping.now all again.1 uses.1 lefts loops
    (one_by_one _ _ _ _ _ all _ _ _ _ _ (ap (map said_of) c.new-notes.ensures.items) again.2 refl
    uses.2 recursive_notes looping_notes)
