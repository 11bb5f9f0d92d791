use Rattle.std.proofs.Common.{◌≡◌, ◌+◌, ◌-◌, suc, arith, subst, ◌∙◌, ap, length, refl, reverse}
use Rattle.std.proofs.Math.Nat.{min-le_left}
use Rattle.std.proofs.lemmas.List.{length_push}
use Rattle.fixpoint.specs.Distances.{Distance}
use Rattle.abnfcheck.proofs.ChainEndsLemmas as t
use Rattle.abnfcheck.proofs.reached_names.ends_to.Goals as goal

pub returns-in_default : goal.returns-in_default
returns-in_default c = λ rows are m chain.
    let w = are.far.whole c.args.to m chain in
    let e = (c.in_default.ensures w.0).0 (rw c.deref.ensures.value w.1) in
    cc e

pub loop-step-init : goal.loop-step-init
loop-step-init c = (
  rw c.new-ids.ensures.items refl,
  λ rows are.
      let at = (c.in-Some.ensures c.in-Some.count).1 refl in
      let far = are.far.sound c.args.to c.in-Some.count (rw c.deref.ensures.value at at) in
      let e : c.in-Some.count ≡ c.in-Some.count - 0 = omega arith in (
        subst (λ z. Distance rows c.args.first c.args.to z) e far,
        rw c.new-ids.ensures.items (t.nothing_completes rows c.args.first c.args.to),
      ),
)

pub returns-in_default-entry_of : goal.returns-in_default-entry_of
returns-in_default-entry_of c = λ rows are m chain.
    let i = c.loop-step.invariant.1 rows are in
    let le = min-le_left c.in-Some.count c.args.last in
    let e : c.in-Some.count - c.loop-step._step ≡ suc (c.in-Some.count - (c.loop-step._step + 1)) =
    omega (arith, le) in
    let w = t.back_is_listed rows c.args.first _ c.loop-step.at (c.in-Some.count - (c.loop-step._step + 1)) are.backs
    (subst (λ z. Distance rows c.args.first c.loop-step.at z) e i.0) in
    let no = (c.in_default-entry_of.ensures w.0).0 (rw c.deref-in-loop-step.ensures.value w.1) in
    cc no

pub loop-step-preserved : goal.loop-step-preserved
loop-step-preserved c = (
  (let l = length_push c.loop-step.ids.items c.loop-step.at in
      let k = ap length c.in_ok-push.ensures.items in
      let i = c.loop-step.invariant.0 in
      omega (arith, l, k, i)),
  λ rows are.
      let i = c.loop-step.invariant.1 rows are in
      let le = min-le_left c.in-Some.count c.args.last in
      let e : c.in-Some.count - c.loop-step._step ≡ suc (c.in-Some.count - (c.loop-step._step + 1)) =
      omega (arith, le) in
      let at = (c.in-Some-entry_of.ensures c.in-Some-entry_of.before).1 refl in
      let met = rw c.deref-in-loop-step.ensures.value at at in
      let back = are.backs.sound c.loop-step.at c.in-Some-entry_of.before met in (
        t.back_is_nearer rows c.args.first c.loop-step.at c.in-Some-entry_of.before
            (c.in-Some.count - (c.loop-step._step + 1)) back
            (subst (λ z. Distance rows c.args.first c.loop-step.at z) e i.0),
        rw c.in_ok-push.ensures.items (t.one_more_completes rows c.args.first c.args.to c.loop-step.at
            c.in-Some-entry_of.before c.loop-step.ids.items back i.1),
      ),
)

pub returns : goal.returns
returns c = λ rows are.
    let i = c.loop-step.invariant.1 rows are in
    let left = min-le_left c.in-Some.count c.args.last in
    t.chain_has_ends rows c.args.first c.args.chains.now.backs.items c.args.to c.loop-step.at c.in-Some.count
    c.loop-step._step c.args.last c.loop-step.ids.items _ are.backs i.0 i.1 c.loop-step.invariant.0
    (omega (arith, left)) (t.rest_is_same c.in-Some.count c.args.last c.loop-step._step (omega arith))
    c.saturating_sub.ensures
    (c.reverse.ensures.items ∙ ap reverse c.in_ok-push-2.ensures.items)
