use Rattle.std.proofs.Common.{arith, ◌∙◌, sym, subst, length, ap}
use Rattle.std.proofs.lemmas.List.{length-map}
use Rattle.fixpoint.specs.Demands.{demands_of}
use Rattle.fixpoint.specs.NeedCounts.{IsComing, count_of}
use Rattle.fixpoint.proofs.IsDerivedLemmas as d
use Rattle.fixpoint.proofs.needs.derive.Goals as goal

pub run-requires-clause-lists : goal.run-requires-clause-lists
run-requires-clause-lists c = record {
  rows = c.in_ok-users.ensures.rows;
  lists = c.in_ok-users.ensures.lists;
  within = λ m n h.
      let lt = c.in_ok-users.ensures.needed.within n m h in
      let e = ap length (c.deref_mut.ensures.value ∙ c.in_ok-left.ensures) in
      let l = length-map (demands_of c.args.needs.now) count_of in
      omega (arith, lt, e, l);
}

pub run-requires-clause-count : goal.run-requires-clause-count
run-requires-clause-count c =
    let u = c.in_ok-users.ensures.needed.count in
    let r = c.in_ok-users.ensures.lists.count in
    let e = ap length (c.deref_mut.ensures.value ∙ c.in_ok-left.ensures) in
    let l = length-map (demands_of c.args.needs.now) count_of in
    omega (arith, u, r, e, l)

pub returns : goal.returns
returns c =
    let is = c.deref.ensures.value ∙ c.in_ok-left.ensures in
    let same = c.deref_mut.ensures.value ∙ sym c.deref.ensures.value in
    c.in_ok-run.ensures (demands_of c.args.needs.now) c.in_ok-users.ensures.rows c.in_ok-users.ensures.lists
    c.in_ok-users.ensures.needed
    (subst (λ v. IsComing (demands_of c.args.needs.now) v c.in_ok-order.order.items 0) (sym same)
    (d.coming_start (demands_of c.args.needs.now) _ _ is c.in_ok-order.ensures))
