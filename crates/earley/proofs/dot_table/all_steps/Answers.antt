use Rattle.std.proofs.Common.{[], ◌∷◌, ap, sym, ◌∙◌, arith, length, length-append, slice_get}
use Rattle.earley.proofs.DotTableLemmas.{steps_next, get_or_index}
use Rattle.earley.proofs.dot_table.all_steps.Goals as goal

pub loop-at-preserved : goal.loop-at-preserved
loop-at-preserved c = rw c.in_ok-push.ensures.items (record {
  count = (let long = length-append c.loop-at.steps.items (c.in-Some.step ∷ []) in
      let was = c.loop-at.invariant.count in omega (arith, long, was));
  each = steps_next c.args.flat.now c.args.numbers.now.dots.items c.loop-at.steps.items c.in-Some.step _
      c.loop-at.invariant.each
      (ap (λ v. slice_get v (length c.loop-at.steps.items)) (sym c.deref-at-items.ensures.value)
      ∙ (ap (λ v. slice_get c.deref-at-items.result.now v) c.loop-at.invariant.count
      ∙ get_or_index c.deref-at-items.result.now c.loop-at.at-index _ c.loop-at-test.true)) c.in-Some.ensures;
})

pub returns : goal.returns
returns c = record {
  count = (let was = c.loop-at.invariant.count in let over = c.loop-at-test.false in
      let le = c.loop-at.auto.at-index-end in
      let same = ap (λ v. length v) c.deref-at-items.ensures.value in omega (arith, was, over, le, same));
  each = c.loop-at.invariant.each;
}
