-- The least set of the needs, cut to the rules.
use Rattle.std.proofs.Common.{◌≡◌, ◌∙◌, ap, arith, length, subst, sym}
use Rattle.std.proofs.lemmas.List.{length-map, length-take-le}
use Rattle.fixpoint.specs.Demands.{AreNeedsWithin, demand_of, demands_of, owned_demands_of}
use Rattle.fixpoint.specs.Least.{AreMarksOfThose}
use Rattle.abnfread.specs.AbnfViews.{rule_of, rules_of}
use Rattle.lowering.specs.MoreMarks.{source_demands}
use Rattle.lowering.proofs.MoreMarksLemmas.{are_more_marks, demands_count, needs_within}
use Rattle.lowering.proofs.sources.more_marks.Goals as goal

-- what is lent asks for the same
lent_needs : (c : goal.After-deref-2) → demands_of c.deref-2.result.now ≡ source_demands (rules_of c.args.rules.now)
lent_needs c =
    ap demands_of c.deref-2.ensures.value ∙ (c.in_ok-borrowed.ensures
    ∙ (ap owned_demands_of c.deref.ensures.value ∙ c.in_ok-needs.ensures))

pub least-requires : goal.least-requires
least-requires c = subst AreNeedsWithin (sym (lent_needs c)) (needs_within (rules_of c.args.rules.now))

pub returns-clause-count : goal.returns-clause-count
returns-clause-count c =
    let same = c.len.ensures.len ∙ sym (length-map c.args.rules.now.rules rule_of) in
    let lent = ap length (ap demands_of c.deref-2.ensures.value ∙ (c.in_ok-borrowed.ensures
    ∙ (ap owned_demands_of c.deref.ensures.value ∙ c.in_ok-needs.ensures))) in
    let all = length-map c.deref-2.result.now demand_of in
    let count = demands_count (rules_of c.args.rules.now) in
    let marks = c.in_ok-marks.ensures.count in
    rw c.truncate.ensures.items
    (length-take-le c.len.result c.in_ok-marks.marks.items (omega (arith, same, lent, all, count, marks)) ∙ same)

pub returns-clause-marks : goal.returns-clause-marks
returns-clause-marks c =
    rw c.truncate.ensures.items
    (are_more_marks (rules_of c.args.rules.now) c.in_ok-marks.marks.items c.len.result
    (c.len.ensures.len ∙ sym (length-map c.args.rules.now.rules rule_of))
    (subst (λ v. AreMarksOfThose v c.in_ok-marks.marks.items)
    (ap demands_of c.deref-2.ensures.value ∙ (c.in_ok-borrowed.ensures
    ∙ (ap owned_demands_of c.deref.ensures.value ∙ c.in_ok-needs.ensures))) c.in_ok-marks.ensures.marks))
