-- A body with steps is a loop, and one without is as it was.
use Rattle.std.proofs.Common.{◌≡◌, ◌∙◌, ◌==◌, ap, IfOk, Result, Ok, Err}
use Rattle.ruletable.specs.declared.memory.Memory.{Memory}
use Rattle.abnfread.specs.AbnfViews.{element_of, elements_of, rules_of}
use Rattle.abnfread.specs.Element.{Elements}
use Rattle.abnfread.specs.declared.elem.Elem.{Elem}
use Rattle.abnfcheck.specs.UnrolledRules.{firsts, steps}
use Rattle.abnfcheck.proofs.UnrolledRulesLemmas.{body_kept, body_looped}
use Rattle.abnfcheck.proofs.copies.unrolled.body_of.Goals as goal

if_made : (r : Result Elem Memory) (P Q : Elem → Type 0) → IfOk r P → ((made : Elem) → P made → Q made) → IfOk r Q
if_made (Ok made) P Q ok then = then made ok
if_made (Err fault) P Q ok then = tt

pub returns-then-is_empty : goal.returns-then-is_empty
returns-then-is_empty c = if_made c.copied.result _ _ c.copied.ensures (λ made is.
    body_kept (rules_of c.args.rules.now) c.args.id (element_of c.args.body.now) (element_of made)
    c.in_ok-parts.parts.steps.items c.is_empty.result
    (c.is_empty.ensures ∙ ap (λ n. n == 0) c.in_ok-parts.parts.steps.ok.0) c.if-is_empty.true
    (c.in_ok-parts.ensures.1
    ∙ ap (λ (es : Elements). steps (rules_of c.args.rules.now) c.args.id es) c.alternatives_of.ensures) is)

pub returns-else-is_empty : goal.returns-else-is_empty
returns-else-is_empty c = if_made c.loop_of.result _ _ c.loop_of.ensures (λ made is.
    body_looped (rules_of c.args.rules.now) c.args.id (element_of c.args.body.now) (element_of made)
    c.in_ok-parts.parts.firsts.items c.in_ok-parts.parts.steps.items c.is_empty.result
    (c.is_empty.ensures ∙ ap (λ n. n == 0) c.in_ok-parts.parts.steps.ok.0)
    c.if-is_empty.false
    (c.in_ok-parts.ensures.0
    ∙ ap (λ (es : Elements). firsts (rules_of c.args.rules.now) c.args.id es) c.alternatives_of.ensures)
    (c.in_ok-parts.ensures.1
    ∙ ap (λ (es : Elements). steps (rules_of c.args.rules.now) c.args.id es) c.alternatives_of.ensures) is)
