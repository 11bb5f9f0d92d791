use Rattle.std.proofs.Common.{◌∙◌, List, map, subst}
use Rattle.std.proofs.lemmas.List.{length-map}
use Rattle.std.specs.Prelude.{option_copied}
use Rattle.ruletable.specs.Notes.{said_of}
use Rattle.pegread.specs.Pattern.{Rule}
use Rattle.pegread.specs.PegViews.{rule_of, rules_of}
use Rattle.gramcheck.specs.Analysis.{IsAnalysed}
use Rattle.pegnodes.specs.Nodes.{shape_of, shapes_of}
use Rattle.gramcheck.specs.GrammarNotes.{AreNotes, names_at}
use Rattle.fixpoint.specs.NumberMarks.{AreBelow}
use Rattle.gramcheck.proofs.PrintMarksLemmas.{bodies_below}
use Rattle.gramcheck.proofs.JudgeLemmas.{marks-recursive, marks-looping, own-ids, ranked_first, start-known, is-given}
use Rattle.gramcheck.proofs.check.judge.Goals as goal

pub analysed-requires-clause-bodies : goal.analysed-requires-clause-bodies
analysed-requires-clause-bodies c = rw (c.deref-2.ensures.value, c.deref.ensures.value)
    (subst (λ n. AreBelow c.in_ok-cut.cut.bodies.items n) (length-map c.in_ok-cut.cut.nodes.items shape_of)
    (bodies_below _ _ _ c.in_ok-cut.ensures.bodies))

pub notes-requires-clause-recursive : goal.notes-requires-clause-recursive
notes-requires-clause-recursive c =
    let t = c.args.rules.now in
    let found = c.in_ok-found.ensures (rules_of t) (rw (c.deref.ensures.value, c.deref-2.ensures.value)
    c.in_ok-cut.ensures.bodies) in
    rw c.deref-3.ensures.value (found.recursive_count ∙ length-map t.rules rule_of)

pub notes-requires-clause-looping : goal.notes-requires-clause-looping
notes-requires-clause-looping c =
    let t = c.args.rules.now in
    let found = c.in_ok-found.ensures (rules_of t) (rw (c.deref.ensures.value, c.deref-2.ensures.value)
    c.in_ok-cut.ensures.bodies) in
    rw c.deref-4.ensures.value (found.looping_count ∙ length-map t.rules rule_of)

module _ (c : goal.After-drop-found-4) where
  abbrev rules : List Rule
  rules = rules_of c.args.rules.now

  found : IsAnalysed rules (shapes_of c.in_ok-cut.cut.nodes.items) c.in_ok-cut.cut.bodies.items
      c.in_ok-found.found.nulls.items c.in_ok-found.found.recursive.items
      c.in_ok-found.found.looping.items c.in_ok-found.found.ranks.items
  found =
      let h = c.in_ok-found.ensures rules (rw (c.deref.ensures.value, c.deref-2.ensures.value)
      c.in_ok-cut.ensures.bodies) in
      rw (c.deref.ensures.value, c.deref-2.ensures.value) at h

  notes : AreNotes rules (names_at rules c.args.redefined.now) (option_copied c.args.start)
      (map said_of c.in_ok-notes.notes.items)
  notes = c.in_ok-notes.ensures
      (rw c.deref-3.ensures.value (marks-recursive rules _ _ _ _ _ _ found
      (own-ids c.args.rules.now c.requires c.in_ok-cut.ensures.unique)))
      (rw c.deref-4.ensures.value (marks-looping rules _ _ _ _ _ _ found))

pub returns-clause-notes : goal.returns-clause-notes
returns-clause-notes c = notes c

pub returns-clause-ranked : goal.returns-clause-ranked
returns-clause-ranked c = λ passes first lt.
    ranked_first (rules c) _ _ _ (notes c) passes _ _ _ _ _ _ (found c) c.in_ok-cut.ensures.bodies
    c.in_ok-cut.ensures.built (length-map c.in_ok-cut.cut.nodes.items shape_of ∙ c.in_ok-cut.ensures.counted)
    c.in_ok-cut.ensures.standing first lt

pub returns-clause-given : goal.returns-clause-given
returns-clause-given c = λ passes. is-given c.args.rules.now c.requires (option_copied c.args.start)
    (λ word e. start-known (rules c) _ _ _ (notes c) passes word e)
