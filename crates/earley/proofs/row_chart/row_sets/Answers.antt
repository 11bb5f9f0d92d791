use Rattle.std.proofs.Common.{◌+◌, ◌≤◌, ◌∷◌, [], length, map, length-append, subst, sym, arith}
use Rattle.earleyitems.specs.Charts.{IsBuilt}
use Rattle.earley.specs.RowCharts.{row_views, AreSizedRows}
use Rattle.earley.proofs.RowWorklistLemmas.{views_more, sized_more}
use Rattle.earley.proofs.row_chart.row_sets.Goals as goal

pub loop-alloc-preserved : goal.loop-alloc-preserved
loop-alloc-preserved g c =
    let dots = c.args.table.now.dots.items in
    let old = c.loop-alloc.filled.sets.items in
    let kept = c.in_ok-kept.kept in
    let more = c.in_ok-keep_set.ensures.sets in
    record {
      indexed = c.in_ok-keep_set.ensures.indexed (length dots) c.loop-alloc.invariant.indexed;
      within = subst (λ v. length v ≤ length c.args.line.now + 1) (sym more)
          (let long = length-append old (kept ∷ []) in
          let test = c.loop-alloc-test.true in let n = c.len.ensures in let ok = c.loop-alloc.filled.sets.ok.0 in
          omega (arith, long, test, n, ok));
      sized = subst (λ v. AreSizedRows dots v) (sym more)
          (sized_more dots old kept c.loop-alloc.invariant.sized c.in_ok-kept.ensures.size);
      built = subst (λ v. IsBuilt c.args.table.now.flat.value (map g.L.Letter.number c.args.line.now)
          (row_views dots v)) (sym more)
          (subst (λ v. IsBuilt c.args.table.now.flat.value (map g.L.Letter.number c.args.line.now) v)
          (sym (views_more dots old kept)) c.in_ok-kept.ensures.built);
    }
