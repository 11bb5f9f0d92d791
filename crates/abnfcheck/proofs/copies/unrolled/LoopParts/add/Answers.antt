-- An alternative is added to one part, and the other part stays.
use Rattle.std.proofs.Common.{◌≡◌, ◌∙◌, ap, sym, option_map}
use Rattle.abnfread.proofs.ElementLemmas.{element-Concat}
use Rattle.abnfread.specs.AbnfViews.{element_of, elements_of, rules_of}
use Rattle.abnfread.specs.Element.{Concat, Elements}
use Rattle.abnfcheck.proofs.UnrolledRulesLemmas.{firsts_more, firsts_same, steps_more, steps_same}
use Rattle.abnfcheck.proofs.copies.unrolled.LoopParts.add.Goals as goal

pub returns-in_ok-push-in-Some-clause-firsts : goal.returns-in_ok-push-in-Some-clause-firsts
returns-in_ok-push-in-Some-clause-firsts c = firsts_same (rules_of c.args.rules.now) c.args.id
    (element_of c.args.alternative.now) (elements_of c.in-Some.tail.now) _
    (sym c.in_ok-tail.ensures ∙ ap (λ o. option_map (λ es. elements_of es.now) o) c.in-Some.is)

pub returns-in_ok-push-in-Some-clause-steps : goal.returns-in_ok-push-in-Some-clause-steps
returns-in_ok-push-in-Some-clause-steps c = steps_more (rules_of c.args.rules.now) c.args.id
    (element_of c.args.alternative.now) (elements_of c.in-Some.tail.now) _ _ _
    (sym c.in_ok-tail.ensures ∙ ap (λ o. option_map (λ es. elements_of es.now) o) c.in-Some.is)
    c.in_ok-push-in-Some.ensures.items
    (element-Concat _ ∙ ap (λ (es : Elements). Concat es) c.in_ok-tail-in-Some.ensures)

pub returns-in_ok-push-in-None-clause-firsts : goal.returns-in_ok-push-in-None-clause-firsts
returns-in_ok-push-in-None-clause-firsts c = firsts_more (rules_of c.args.rules.now) c.args.id
    (element_of c.args.alternative.now) _ _ _
    (sym c.in_ok-tail.ensures ∙ ap (λ o. option_map (λ es. elements_of es.now) o) c.in-None.is)
    c.in_ok-push-in-None.ensures.items c.in_ok-copied-in-None.ensures

pub returns-in_ok-push-in-None-clause-steps : goal.returns-in_ok-push-in-None-clause-steps
returns-in_ok-push-in-None-clause-steps c = steps_same (rules_of c.args.rules.now) c.args.id
    (element_of c.args.alternative.now) _
    (sym c.in_ok-tail.ensures ∙ ap (λ o. option_map (λ es. elements_of es.now) o) c.in-None.is)
