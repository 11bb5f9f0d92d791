use Rattle.std.proofs.Common.{◌≡◌, ◌<◌, ℕ, length, ap, arith, subst, sym, ◌∙◌}
use Rattle.std.specs.Prelude.{slice_get, Some}
use Rattle.std.proofs.lemmas.Option.{slice_get-get_or}
use Rattle.rulelines.proofs.OverLemmas.{closed_all, closed_more}
use Rattle.rulelines.proofs.list.over.is_closed.Goals as goal

pub loop-state-preserved : goal.loop-state-preserved
loop-state-preserved c =
    let row = c.in-Some.row.now in
    let at = subst (λ v. slice_get v c.loop-state.state ≡ Some row) c.deref.ensures.value
    (slice_get-get_or c.deref.result.now c.loop-state.state row
    (let t = c.in-Some.ensures.lookup.0 in grind (arith, t)) ∙ ap (λ v. Some v) (sym c.in-Some.ensures.lookup.1)) in
    closed_more c.args.table.now c.loop-state.state row at
    (ap (λ v. length v) (sym c.deref-else-len-starts.ensures.value) ∙ (c.deref-else-len-starts.ensures.len
    ∙ (sym c.len.ensures ∙ (c.if-len-starts.false ∙ ap (λ v. length v) c.deref-starts.ensures.value))))
    (subst (λ v. (j t : ℕ) → slice_get v j ≡ Some t → t < c.args.table.now.seen)
    c.deref-else-len-starts.ensures.value (c.are_below.ensures c.if-not-are_below.false)) c.loop-state.invariant

pub returns : goal.returns
returns c = λ yes.
    let over = c.loop-state-test.false in
    closed_all c.args.table.now c.loop-state.state (omega (arith, over)) c.loop-state.invariant
