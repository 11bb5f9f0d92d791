use Rattle.std.proofs.Common.{◌≡◌, ℕ, ◌+◌, ◌-◌, ◌∙◌, ap, arith, take, drop}
use Rattle.std.specs.List.{flat_map}
use Rattle.pegnodes.specs.Nodes.{shape_of, shapes_of}
use Rattle.pegmatch.proofs.NodeShapeLemmas.{shape_at}
use Rattle.matchfailure.specs.ReportOrder.{named_id}
use Rattle.matchfailure.proofs.UseRowsLemmas.{ids-more, in-rest}
use Rattle.matchfailure.proofs.explain.uses.names_between.Goals as goal

pub loop-n-preserved : goal.loop-n-preserved
loop-n-preserved c =
    let low = c.loop-n.invariant.low in
    let here = in-rest (shapes_of c.args.peg.now.nodes) c.args.first c.loop-n.n (shape_of c.node.result.now) low
    (shape_at c.args.peg.now.nodes _ _ c.node.ensures) in
    let next : (c.loop-n.n - c.args.first) + 1 ≡ c.loop-n.n + 1 - c.args.first = omega (arith, low) in
    record {
      low = omega (arith, low);
      high = omega (arith, low, c.loop-n-test.true);
      row = ids-more (drop c.args.first (shapes_of c.args.peg.now.nodes)) (c.loop-n.n - c.args.first)
          (shape_of c.node.result.now) _ _ here c.loop-n.invariant.row c.in_ok-push_named.ensures
          ∙ ap (λ (k : ℕ). flat_map named_id (take k (drop c.args.first (shapes_of c.args.peg.now.nodes)))) next;
    }

pub returns : goal.returns
returns c =
    let over = c.loop-n-test.false in
    let low = c.loop-n.invariant.low in
    let rest = drop c.args.first (shapes_of c.args.peg.now.nodes) in
    let same : c.loop-n.n - c.args.first ≡ c.args.last - c.args.first =
    omega (arith, over, c.loop-n.invariant.high, low) in
    let here = in-rest (shapes_of c.args.peg.now.nodes) c.args.first c.args.last (shape_of c.node-2.result.now)
    c.requires.order (shape_at c.args.peg.now.nodes _ _ c.node-2.ensures) in
    let whole : (c.args.last - c.args.first) + 1 ≡ c.args.last + 1 - c.args.first = omega (arith, c.requires.order) in
    ids-more rest (c.args.last - c.args.first) (shape_of c.node-2.result.now) _ _ here
    (c.loop-n.invariant.row ∙ ap (λ (k : ℕ). flat_map named_id (take k rest)) same) c.in_ok-push_named-2.ensures
    ∙ ap (λ (k : ℕ). flat_map named_id (take k rest)) whole
