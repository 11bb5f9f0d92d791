use Rattle.std.proofs.Common.{◌≡◌, ℕ, [], get_or, Some, None, rules}
use Rattle.std.specs.Prelude.{slice_get}
use Rattle.fixpoint.specs.Demands.{Demand, demand_of, All}
use Rattle.pegnodes.specs.Nodes.{Shape, shapes_of}
use Rattle.pegnodes.specs.SettledNeeds.{LetsLate}
use Rattle.pegnodes.proofs.HasShapeLemmas.{node_at}
use Rattle.pegnodes.proofs.PushedMarksLemmas.{all_pushed_by}
use Rattle.pegnodes.proofs.SettledLemmas.{at_shape, free_late}
use Rattle.pegnodes.proofs.settled.late_needs.Goals as goal

pub loop-n-init : goal.loop-n-init
loop-n-init c = record {
  count = search rules;
  lets = rw (c.in_ok-needs.ensures).items (λ n shape at.
      free_late c.args.bodies.now (λ m. get_or c.args.row.now m None) (get_or c.args.row.now n None) shape);
}

pub loop-n-preserved : goal.loop-n-preserved
loop-n-preserved c = record {
  count = search rules;
  lets = rw (c.in_ok-push.ensures).items (all_pushed_by demand_of
      (λ (n : ℕ) (d : Demand). (shape : Shape) → slice_get (shapes_of c.args.nodes.now) n ≡ Some shape
      → LetsLate c.args.bodies.now (λ m. get_or c.args.row.now m None) (get_or c.args.row.now n None) shape d)
      c.loop-n.needs.items c.late_need.result (All []) c.loop-n.n c.loop-n.invariant.count c.loop-n.invariant.lets
      (λ shape at. at_shape
      (λ s. LetsLate c.args.bodies.now (λ m. get_or c.args.row.now m None) (get_or c.args.row.now c.loop-n.n None) s
      (demand_of c.late_need.result)) (shapes_of c.args.nodes.now) c.loop-n.n _ shape
      (node_at _ _ _ c.loop-n-test.true c.index-nodes-n.is) at
      (rw c.verdict_at.ensures at c.late_need.ensures)));
}
