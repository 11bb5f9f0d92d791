-- Each missing name has no rule, and a rule whose id is no use is not used.
use Rattle.std.proofs.Common.{◌≡◌, length, map, not, sym}
use Rattle.std.specs.Prelude.{option_copied}
use Rattle.std.proofs.lemmas.List.{length-map}
use Rattle.std.proofs.lemmas.Result.{IfOk-weaker}
use Rattle.pegread.specs.PegViews.{rule_of, rules_of}
use Rattle.gramcheck.proofs.RuleNameLemmas.{own-names}
use Rattle.gramcheck.proofs.AreNotesLemmas.{marks-unused, undefined-names}
use Rattle.gramcheck.proofs.notes.note_uses.Goals as goal

pub returns : goal.returns
returns c =
    let t = c.args.rules.now in
    let start = option_copied c.args.start in
    let count : length (rules_of t) ≡ length t.rules = length-map t.rules rule_of in
    let own = own-names t c.len.ensures.unique c.requires in
    let missing = c.in_ok-uses.uses.missing in
    let ids = c.in_ok-uses.uses.ids.items in
    let undefined = rw (undefined-names (rules_of t) start ids missing c.in_ok-uses.ensures) at
    c.in_ok-note_undefined.ensures in
    let marks = c.in_ok-used.used.items in
    let used = rw (c.deref.ensures.value, c.len.ensures.len, sym count) at c.in_ok-used.ensures in
    let unused = marks-unused (rules_of t) start ids missing c.in_ok-uses.ensures own marks used in
    IfOk-weaker c.note_marked.result _ _ (λ _ noted. (
      map not marks,
      unused,
      rw (c.deref-3.ensures.value, c.in_ok-unused.ensures, c.deref-2.ensures.value, undefined) at noted,
    ))
    c.note_marked.ensures
