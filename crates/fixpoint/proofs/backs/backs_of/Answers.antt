use Rattle.std.proofs.Common.{◌≡◌, ◌∙◌, None, length, ap, arith, rules, sym, subst, Contains, replicate}
use Rattle.std.proofs.lemmas.List.{length-replicate}
use Rattle.fixpoint.proofs.IsMarkedLemmas.{take_written}
use Rattle.fixpoint.proofs.RowsOfLemmas as t
use Rattle.fixpoint.specs.StepRows.{slices_of}
use Rattle.fixpoint.specs.Fills.{AreBacksTo}
use Rattle.fixpoint.proofs.BacksLemmas as b
use Rattle.fixpoint.proofs.backs.backs_of.Goals as goal

pub loop-n-init : goal.loop-n-init
loop-n-init c =
    let fresh : c.in_ok-backs.backs.items ≡ replicate (length c.args.steps.now) None = search rules in
    let full = ap length fresh ∙ length-replicate (length c.args.steps.now) None in
    (full, λ s dist. b.backs_start _ s (length c.args.steps.now) _ (sym (t.length-slices c.args.steps.now)) full fresh)

pub set_backs-requires-clause-first : goal.set_backs-requires-clause-first
set_backs-requires-clause-first c =
    let lt = c.loop-n-test.true in let e = c.requires.far in omega (arith, lt, e)

pub set_backs-requires-clause-second : goal.set_backs-requires-clause-second
set_backs-requires-clause-second c = λ m h.
    let row = t.slice_now c.args.steps.now _ c.loop-n-test.true in
    let lt = c.requires.within.within _ m (subst (λ v. Contains v m) (sym row) h) in
    let l = t.length-slices c.args.steps.now in
    let e = c.requires.far in
    omega (arith, lt, l, e)

pub set_backs-requires-clause-room : goal.set_backs-requires-clause-room
set_backs-requires-clause-room c =
    let v = ap length c.deref_mut.ensures.value in
    let k = c.loop-n.invariant.0 in
    let e = c.requires.far in
    omega (arith, v, k, e)

pub loop-n-preserved : goal.loop-n-preserved
loop-n-preserved c =
    let v = c.deref_mut.ensures.value in
    let n = ap length v in
    let k = c.set_backs.ensures.count in
    let ok = c.loop-n.backs.ok.0 in
    let row = t.slice_now c.args.steps.now _ c.loop-n-test.true in
    let new = take_written c.set_backs.new.backs c.loop-n.backs.items c.loop-n.backs.len
    (omega (arith, k, n)) (omega (arith, ok)) in
    rw new (
      (let i = c.loop-n.invariant.0 in omega (arith, k, n, i)),
      λ s dist. b.backs_next _ s _ _ dist (rw (row, ← v) c.set_backs.ensures) (c.loop-n.invariant.1 s dist),
    )

pub returns : goal.returns
returns c = λ s dist.
    let l = t.length-slices c.args.steps.now in
    let le = c.loop-n-test.false in
    let ge = c.loop-n.auto.n-end in
    let e : c.loop-n.n ≡ length (slices_of c.args.steps.now) = omega (arith, l, le, ge) in
    b.backs_done _ s c.args.far.now _ dist
    (subst (λ z. AreBacksTo (slices_of c.args.steps.now) s c.loop-n.backs.items z) e (c.loop-n.invariant.1 s dist))
