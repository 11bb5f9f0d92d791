-- The least set of the needs.
use Rattle.std.proofs.Common.{◌≡◌, ◌∙◌, ap, subst, sym, arith, length}
use Rattle.std.proofs.lemmas.List.{length-map}
use Rattle.fixpoint.specs.Demands.{AreNeedsWithin, demand_of, demands_of, owned_demands_of}
use Rattle.fixpoint.specs.Least.{AreMarksOfThose}
use Rattle.abnfread.specs.AbnfViews.{rules_of}
use Rattle.abnfcheck.proofs.YieldsLemmas.{marks_for}
use Rattle.abnfcheck.proofs.rule_marks.rule_marks.Goals as goal

-- what is lent asks for the same
lent_needs : (c : goal.After-deref-2) → demands_of c.deref-2.result.now ≡ owned_demands_of c.in_ok-needs.needs.items
lent_needs c = ap demands_of c.deref-2.ensures.value ∙ c.in_ok-borrowed.ensures
    ∙ ap owned_demands_of c.deref.ensures.value

pub least-requires : goal.least-requires
least-requires c = subst AreNeedsWithin (sym (lent_needs c)) c.in_ok-needs.ensures.within

pub returns-clause-marks : goal.returns-clause-marks
returns-clause-marks c = marks_for c.args.aim (rules_of c.args.rules.now) _ _ c.in_ok-needs.ensures.bodies
    (subst (λ v. AreMarksOfThose v c.in_ok-least.field-0.items)
    (ap demands_of c.deref-2.ensures.value ∙ c.in_ok-borrowed.ensures ∙ ap owned_demands_of c.deref.ensures.value)
    c.in_ok-least.ensures.marks)

pub returns-clause-count : goal.returns-clause-count
returns-clause-count c =
    let e = ap length (ap demands_of c.deref-2.ensures.value ∙ c.in_ok-borrowed.ensures
    ∙ ap owned_demands_of c.deref.ensures.value) in
    let l = length-map c.deref-2.result.now demand_of in
    let n = c.in_ok-least.ensures.count in
    let f = c.in_ok-needs.ensures.fits in
    omega (arith, e, l, n, f)
