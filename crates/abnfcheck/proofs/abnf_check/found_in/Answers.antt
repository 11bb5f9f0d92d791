-- The ids, the marks, the notes, and what rejects.
use Rattle.std.proofs.Common.{◌∙◌, ap, arith, length, subst, sym}
use Rattle.std.specs.Prelude.{Contains}
use Rattle.std.proofs.lemmas.List.{length-map}
use Rattle.fixpoint.proofs.RowsOfLemmas.{length-rows}
use Rattle.fixpoint.specs.IdMarks.{AreMarks}
use Rattle.abnfread.specs.Element.{Rule}
use Rattle.abnfread.specs.AbnfViews.{rule_of, rules_of}
use Rattle.abnfcheck.specs.ProseIn.{prose_in}
use Rattle.abnfcheck.proofs.AbnfNotesLemmas.{are_notes}
use Rattle.abnfcheck.proofs.GraphLemmas.{judged_at, rows_long, steps_within}
use Rattle.abnfcheck.proofs.NameIdsLemmas.{names_same}
use Rattle.abnfcheck.proofs.abnf_check.found_in.Goals as goal

pub note_marks-requires-clause-steps : goal.note_marks-requires-clause-steps
note_marks-requires-clause-steps c = steps_within (rules_of c.args.rules.now) _ _ _ _ c.in_ok-ids.ensures.graph

pub note_marks-requires-clause-prose : goal.note_marks-requires-clause-prose
note_marks-requires-clause-prose c =
    let l = ap length c.deref.ensures.value ∙ ap length c.in_ok-prose.ensures
    ∙ length-map (rules_of c.args.rules.now) (λ (rule : Rule). prose_in rule.body)
    ∙ length-map c.args.rules.now.rules rule_of in
    omega (arith, l, c.requires.count)

pub note_marks-requires-clause-rows : goal.note_marks-requires-clause-rows
note_marks-requires-clause-rows c =
    let long = rows_long (rules_of c.args.rules.now) _ _ _ _ c.in_ok-ids.ensures.graph in
    let rows = length-rows c.in_ok-ids.ids.rows.items in
    let l = length-map c.args.rules.now.rules rule_of in
    omega (arith, long, rows, l, c.requires.count)

pub notes_on-requires-clause-redefined : goal.notes_on-requires-clause-redefined
notes_on-requires-clause-redefined c =
    let m = c.in_ok-marks.ensures (rules_of c.args.rules.now) _ c.in_ok-ids.ensures.graph
    (c.deref.ensures.value ∙ c.in_ok-prose.ensures) in
    omega (arith, m.redefined_are.count_is, c.requires.count)

pub notes_on-requires-clause-extended : goal.notes_on-requires-clause-extended
notes_on-requires-clause-extended c =
    let m = c.in_ok-marks.ensures (rules_of c.args.rules.now) _ c.in_ok-ids.ensures.graph
    (c.deref.ensures.value ∙ c.in_ok-prose.ensures) in
    omega (arith, m.extended_are.count_is, c.requires.count)

pub notes_on-requires-clause-prose : goal.notes_on-requires-clause-prose
notes_on-requires-clause-prose c =
    let m = c.in_ok-marks.ensures (rules_of c.args.rules.now) _ c.in_ok-ids.ensures.graph
    (c.deref.ensures.value ∙ c.in_ok-prose.ensures) in
    omega (arith, m.prose_are.count_is, c.requires.count)

pub notes_on-requires-clause-unused : goal.notes_on-requires-clause-unused
notes_on-requires-clause-unused c =
    let m = c.in_ok-marks.ensures (rules_of c.args.rules.now) _ c.in_ok-ids.ensures.graph
    (c.deref.ensures.value ∙ c.in_ok-prose.ensures) in
    omega (arith, m.unused_are.count_is, c.requires.count)

pub is_refused-requires-clause-steps : goal.is_refused-requires-clause-steps
is_refused-requires-clause-steps c = steps_within (rules_of c.args.rules.now) _ _ _ _ c.in_ok-ids.ensures.graph

pub is_refused-requires-clause-rows : goal.is_refused-requires-clause-rows
is_refused-requires-clause-rows c =
    let l = ap length c.deref-2.ensures.value ∙ ap length c.in_ok-prose.ensures
    ∙ length-map (rules_of c.args.rules.now) (λ (rule : Rule). prose_in rule.body) in
    let long = rows_long (rules_of c.args.rules.now) _ _ _ _ c.in_ok-ids.ensures.graph in
    let rows = length-rows c.in_ok-ids.ids.rows.items in
    omega (arith, l, long, rows)

pub returns-clause-notes : goal.returns-clause-notes
returns-clause-notes c = λ file more is begins.
    let rules = rules_of c.args.rules.now in
    let m = c.in_ok-marks.ensures rules _ c.in_ok-ids.ensures.graph (c.deref.ensures.value ∙ c.in_ok-prose.ensures) in
    are_notes rules _ _ _ _ c.in_ok-ids.ensures.graph file more _ _ _ _ _ _ _
    (names_same c.args.rules.now.rules ∙ begins)
    (rw (sym is) at m)
    (rw (sym (names_same c.args.rules.now.rules), sym (length-map c.args.rules.now.rules rule_of)) at
    c.in_ok-notes.ensures)

pub returns-clause-refused : goal.returns-clause-refused
returns-clause-refused c = λ file is.
    let rules = rules_of c.args.rules.now in
    let m = c.in_ok-marks.ensures rules _ c.in_ok-ids.ensures.graph (c.deref.ensures.value ∙ c.in_ok-prose.ensures) in
    c.in_ok-refused.ensures file rules _ c.args.redefined.now c.in_ok-ids.ensures.graph
    (c.deref-2.ensures.value ∙ c.in_ok-prose.ensures)
    (subst (λ v. AreMarks (Contains c.args.redefined.now) (length file) v) (sym c.deref-3.ensures.value)
    (subst (λ k. AreMarks (Contains c.args.redefined.now) k c.in_ok-marks.marks.redefined.items) (sym is)
    m.redefined_are))

pub returns-clause-judged : goal.returns-clause-judged
returns-clause-judged c = judged_at (rules_of c.args.rules.now) _ _ _ _ c.in_ok-ids.ensures.graph
