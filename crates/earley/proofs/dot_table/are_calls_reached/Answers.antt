use Rattle.std.proofs.Common.{◌≡◌, ⊎_elim, slice_get, ap, sym, ◌∙◌, arith}
use Rattle.std.proofs.lemmas.Bool.{cases_lt}
use Rattle.flatgrammar.proofs.CallOfLemmas.{some_same, get_below}
use Rattle.earley.proofs.DotTableLemmas.{get_or_index}
use Rattle.earley.proofs.dot_table.are_calls_reached.Goals as goal

pub loop-i-init : goal.loop-i-init
loop-i-init c p s d lt = absurd (omega (arith, lt))

pub loop-i-preserved : goal.loop-i-preserved
loop-i-preserved c p s d lt is called = ⊎_elim (λ low. c.loop-i.invariant p s d low is called)
    (λ past. let same : p ≡ c.loop-i.i = omega (arith, lt, past) in
    let step = some_same (sym is ∙ (ap (λ v. slice_get c.args.steps.now v) same
    ∙ get_or_index c.args.steps.now c.loop-i.i _ c.loop-i-test.true)) in
    c.is_call_reached.ensures c.if-not-is_call_reached.false d (ap (λ v. v.called) (sym step) ∙ called))
    (cases_lt p c.loop-i.i)

pub returns : goal.returns
returns c t p s d is called = c.loop-i.invariant p s d
    (let lt = get_below c.args.steps.now p is in let over = c.loop-i-test.false in omega (arith, lt, over)) is called
