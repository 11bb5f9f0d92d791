use Rattle.std.proofs.Common.{Some, ◌∷◌, [], arith, length-append, subst}
use Rattle.flatgrammar.specs.ItemClosures.{lists_in, IsDotList}
use Rattle.flatgrammar.proofs.DotListLemmas.{lists_more, lists_all}
use Rattle.flatgrammar.proofs.dot_list.dot_lists.Goals as goal

pub loop-prediction-preserved : goal.loop-prediction-preserved
loop-prediction-preserved c = rw c.in_ok-push.ensures.items (record {
  count = (let long = length-append c.loop-prediction.lists.items (c.in_ok-list.list ∷ []) in let was =
      c.loop-prediction.invariant.count in omega (arith, long, was));
  each = lists_more c.args.flat.now c.loop-prediction.lists.items c.in_ok-list.list c.loop-prediction.prediction
      c.loop-prediction.invariant.count c.loop-prediction.invariant.each
      (subst (λ v. IsDotList c.args.flat.now v (lists_in (Some c.in_ok-list.list))) c.dots.ensures
      c.in_ok-list.ensures);
})

pub returns : goal.returns
returns c = lists_all c.args.flat.now c.loop-prediction.lists.items c.loop-prediction.prediction
    c.loop-prediction.invariant.count
    (let le = c.loop-prediction.auto.prediction-end in let over = c.loop-prediction-test.false in let n =
    c.len-prediction-end.ensures in
    let ok = c.args.flat.now.closures.ok.0 in omega (arith, le, over, n, ok))
    c.loop-prediction.invariant.each
