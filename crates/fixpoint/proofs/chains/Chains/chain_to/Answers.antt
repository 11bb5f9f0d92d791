use Rattle.std.proofs.Common.{◌≡◌, ◌+◌, ◌-◌, suc, arith, subst}
use Rattle.std.proofs.Common.{refl}
use Rattle.fixpoint.specs.Distances.{Distance}
use Rattle.fixpoint.specs.Fills.{top, below}
use Rattle.fixpoint.proofs.ShortChainsLemmas as t
use Rattle.fixpoint.proofs.chains.Chains.chain_to.Goals as goal

pub returns-in_default : goal.returns-in_default
returns-in_default c = λ rows s are m chain.
    let w = are.far.whole c.args.n m chain in
    let e = (c.in_default.ensures w.0).0 (rw c.deref.ensures.value w.1) in
    cc e

pub loop-step-init : goal.loop-step-init
loop-step-init c = λ rows s are.
    let at = (c.in-Some.ensures c.in-Some.count).1 refl in
    let far = are.far.sound c.args.n c.in-Some.count (rw c.deref.ensures.value at at) in
    let e : c.in-Some.count ≡ c.in-Some.count - 0 = omega arith in
    (subst (λ z. Distance rows s c.args.n z) e far, rw c.new-chain.ensures.items top)

pub returns-in_default-reported : goal.returns-in_default-reported
returns-in_default-reported c = λ rows s are m chain.
    let i = c.loop-step.invariant rows s are in
    let lt = c.loop-step-test.true in
    let e : c.in-Some.count - c.loop-step._step ≡ suc (c.in-Some.count - (c.loop-step._step + 1)) = omega (arith, lt) in
    let w = t.back_reported rows s _ c.loop-step.at (c.in-Some.count - (c.loop-step._step + 1)) are.backs
    (subst (λ z. Distance rows s c.loop-step.at z) e i.0) in
    let no = (c.in_default-reported.ensures w.0).0 (rw c.deref-in-loop-step.ensures.value w.1) in
    cc no

pub loop-step-preserved : goal.loop-step-preserved
loop-step-preserved c = λ rows s are.
    let i = c.loop-step.invariant rows s are in
    let lt = c.loop-step-test.true in
    let e : c.in-Some.count - c.loop-step._step ≡ suc (c.in-Some.count - (c.loop-step._step + 1)) = omega (arith, lt) in
    let at = (c.in-Some-reported.ensures c.in-Some-reported.before).1 refl in
    let met = rw c.deref-in-loop-step.ensures.value at at in
    let back = are.backs.sound c.loop-step.at c.in-Some-reported.before met in (
      t.back_is_nearer rows s c.loop-step.at c.in-Some-reported.before (c.in-Some.count - (c.loop-step._step + 1)) back
          (subst (λ z. Distance rows s c.loop-step.at z) e i.0),
      rw c.in_ok-push.ensures.items (below i.1 back),
    )

pub returns : goal.returns
returns c = λ rows s are.
    let i = c.loop-step.invariant rows s are in
    let le = c.loop-step-test.false in
    let e : c.in-Some.count - c.loop-step._step ≡ 0 = omega (arith, le) in
    let whole = t.chain_whole rows s c.args.n c.loop-step.at c.loop-step.chain.items i.1
    (subst (λ z. Distance rows s c.loop-step.at z) e i.0) in
    rw (c.reverse.ensures.items, c.in_ok-push-2.ensures.items) whole
