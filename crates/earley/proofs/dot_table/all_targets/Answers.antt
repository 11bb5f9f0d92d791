use Rattle.std.proofs.Common.{[], ◌∷◌, subst, sym, arith, length-append}
use Rattle.std.specs.Prelude.{IfSome}
use Rattle.earley.specs.DotTables.{AreStartsIf, IsTargetAt}
use Rattle.earley.proofs.DotTableLemmas.{targets_next}
use Rattle.earley.proofs.dot_table.all_targets.Goals as goal

pub loop-target-preserved : goal.loop-target-preserved
loop-target-preserved c = rw c.in_ok-push.ensures.items (record {
  count = (let long = length-append c.loop-target.targets.items (record {
    reached = c.is_marked-reached.result;
    starts = c.in-Some.starts;
    calls =
        c.in_ok-calls.calls;
  } ∷ []) in
      let was = c.loop-target.invariant.count in omega (arith, long, was));
  each = targets_next c.args.flat.now c.args.numbers.now.dots.items c.args.steps.now c.loop-target.targets.items
      (record { reached = c.is_marked-reached.result; starts = c.in-Some.starts; calls = c.in_ok-calls.calls })
      c.loop-target.invariant.each
      (subst (λ v. IsTargetAt c.args.flat.now c.args.numbers.now.dots.items c.args.steps.now v
      (record { reached = c.is_marked-reached.result; starts = c.in-Some.starts; calls = c.in_ok-calls.calls }))
      (sym c.loop-target.invariant.count)
      (record {
        starts = subst (λ o. IfSome o (λ s. AreStartsIf c.is_marked-reached.result c.args.flat.now
            c.args.numbers.now.dots.items c.loop-target.target
            s.items))
            c.in-Some.is c.in_ok-starts.ensures;
        calls = c.in_ok-calls.ensures;
      }));
})

pub returns : goal.returns
returns c = record {
  count = (let was = c.loop-target.invariant.count in let le = c.loop-target.auto.target-end in
      let over = c.loop-target-test.false in let n = c.len-target-end.ensures in let ok = c.args.flat.now.nodes.ok.0 in
      omega (arith, was, le, over, n, ok));
  each = c.loop-target.invariant.each;
}
