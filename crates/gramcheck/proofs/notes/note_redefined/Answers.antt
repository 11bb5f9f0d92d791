-- The rules' names are unique, so the marks of the ids are those of the names.
use Rattle.std.proofs.Common.{◌≡◌, length, sym}
use Rattle.std.proofs.lemmas.List.{length-map}
use Rattle.std.proofs.lemmas.Result.{IfOk-weaker}
use Rattle.pegread.specs.PegViews.{rule_of, rules_of}
use Rattle.gramcheck.proofs.RuleNameLemmas.{own-names}
use Rattle.gramcheck.proofs.AreNotesLemmas.{marks-again}
use Rattle.gramcheck.proofs.notes.note_redefined.Goals as goal

pub returns : goal.returns
returns c =
    let t = c.args.rules.now in
    let count : length (rules_of t) ≡ length t.rules = length-map t.rules rule_of in
    let own = own-names t c.len.ensures.unique c.requires in
    let again = rw (c.len.ensures.len, sym count) at c.in_ok-again.ensures in
    let marks = marks-again (rules_of t) own c.args.redefined.now c.in_ok-again.again.items again in
    IfOk-weaker c.note_marked.result _ _
    (λ _ noted. (c.in_ok-again.again.items, marks, rw c.deref.ensures.value at noted)) c.note_marked.ensures
