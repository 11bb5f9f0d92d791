use Rattle.std.proofs.Common.{◌<◌, ◌∙◌, false, length, ap, arith, rules, sym, subst, Contains}
use Rattle.std.proofs.lemmas.List.{length-replicate}
use Rattle.fixpoint.proofs.ReachLemmas as s
use Rattle.fixpoint.proofs.RowsOfLemmas as t
use Rattle.fixpoint.proofs.reach.spread.Goals as goal

pub mark_all-requires : goal.mark_all-requires
mark_all-requires c = λ m h. let lt = c.requires.these m h in let l = ap length c.requires.fresh in
    let k = length-replicate (length c.args.steps.now) false in omega (arith, lt, l, k)

pub loop-n-init : goal.loop-n-init
loop-n-init c = s.spreading_start _ _ (length c.args.steps.now) _ _ _ _ (sym (t.length-slices _))
    (ap length c.requires.fresh ∙ length-replicate _ false) c.requires.fresh c.requires.stack c.in_ok-mark_all.ensures

pub bounds-steps-n : goal.bounds-steps-n
bounds-steps-n c =
    let lt = s.top_in _ _ _ _ _ _ (c.in-Some.ensures).items c.loop-n.invariant in
    let l = t.length-slices c.args.steps.now in
    omega (arith, lt, l)

pub offset_bounds-steps-n : goal.offset_bounds-steps-n
offset_bounds-steps-n c = let lt = bounds-steps-n c in search (rules, lt)

pub mark_all-requires-in-Some : goal.mark_all-requires-in-Some
mark_all-requires-in-Some c = λ m h.
    let top = s.top_in _ _ _ _ _ _ (c.in-Some.ensures).items c.loop-n.invariant in
    let l = t.length-slices c.args.steps.now in
    let below : c.in-Some.n < length c.args.steps.now = omega (arith, top, l) in
    let row = t.slice_now _ _ below in
    let lt = c.requires.within.within _ m (subst (λ v. Contains v m) (sym row) h) in
    let k = c.loop-n.invariant.count in
    omega (arith, lt, k)

pub loop-n-smaller : goal.loop-n-smaller
loop-n-smaller c = rw (c.in-Some.ensures).items (s.stack_falls _ _ _ _ (c.in_ok-mark_all-2.ensures).left)

pub loop-n-preserved : goal.loop-n-preserved
loop-n-preserved c =
    let top = s.top_in _ _ _ _ _ _ (c.in-Some.ensures).items c.loop-n.invariant in
    let l = t.length-slices c.args.steps.now in
    let below : c.in-Some.n < length c.args.steps.now = omega (arith, top, l) in
    let row = t.slice_now _ _ below in
    s.spreading_next _ _ _ _ (c.in-Some.ensures).items c.loop-n.invariant (rw row c.in_ok-mark_all-2.ensures)

pub returns-clause-marks : goal.returns-clause-marks
returns-clause-marks c = s.spreading_done _ _ _ _ (let e = (c.in_default.ensures).cases.0 in
    let k = c.loop-n.stack.ok.0 in omega (arith, e, k)) c.loop-n.invariant

pub returns-clause-count : goal.returns-clause-count
returns-clause-count c = c.loop-n.invariant.count ∙ t.length-slices _
