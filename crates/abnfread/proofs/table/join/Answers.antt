use Rattle.std.proofs.Common.{◌≡◌, [], refl, sym, ap, ◌∙◌, arith}
use Rattle.abnfread.specs.AbnfSpelling.{alternation}
use Rattle.abnfread.specs.AbnfViews.{elements_of}
use Rattle.abnfread.proofs.AbnfMachineLemmas.{append-none}
use Rattle.abnfread.proofs.ElementListLemmas.{choice-node}
use Rattle.abnfread.proofs.FirstBodyLemmas.{one-joined, length-none}
use Rattle.abnfread.proofs.table.join.Goals as goal

pub loop-e-init : goal.loop-e-init
loop-e-init c = rw (c.into_iter-e-iterator.ensures.into_iter_gives.0, c.in_ok-all.ensures, c.in_ok-more.ensures) refl

pub loop-e-preserved : goal.loop-e-preserved
loop-e-preserved c = one-joined c.loop-e.all.items c.push.new.self.items c.next.new.self.rest.items
    c.loop-e.e-iterator.rest.items c.in-Some.e _ c.loop-e.invariant c.in-Some.ensures.steps.0 c.in_ok-push.ensures.items

pub returns : goal.returns
returns c =
    let t = c.loop-e in
    let none : t.e-iterator.rest.items ≡ [] = length-none t.e-iterator.rest.items
    (omega (arith, t.e-iterator.rest.ok, c.in-None.ensures.steps.0)) in
    choice-node t.all.items _ c.choice.ensures ∙ ap alternation (sym (append-none (elements_of t.all.items))
    ∙ (let i = t.invariant in rw none at i))
