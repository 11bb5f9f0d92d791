use Rattle.std.proofs.Common.{◌<◌, ℕ, [], length, Contains, rules}
use Rattle.fixpoint.specs.Demands.{Demand, demand_of, row_of, One}
use Rattle.pegnodes.specs.KeyNeeds.{Justifies}
use Rattle.pegnodes.specs.Nodes.{shapes_of}
use Rattle.pegnodes.proofs.PushedMarksLemmas.{all_pushed_by}
use Rattle.pegnodes.proofs.keys.single_needs.Goals as goal

pub loop-m-preserved : goal.loop-m-preserved
loop-m-preserved c = record {
  count = search rules;
  within = rw (c.in_ok-push.ensures).items (all_pushed_by demand_of
      (λ (m : ℕ) (d : Demand). (a : ℕ) → Contains (row_of d) a → a < length c.args.nodes.now) c.loop-m.needs.items _
      (One [])
      c.loop-m.m c.loop-m.invariant.count c.loop-m.invariant.within c.single_need.ensures.within);
  justified = λ start bodies known. rw (c.in_ok-push.ensures).items (all_pushed_by demand_of
      (Justifies start (shapes_of c.args.nodes.now) bodies) c.loop-m.needs.items _ (One []) c.loop-m.m
      c.loop-m.invariant.count (c.loop-m.invariant.justified start bodies known)
      (c.single_need.ensures.justified start bodies known));
}
