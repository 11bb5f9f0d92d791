use Rattle.std.proofs.Common.{◌≡◌, ◌∙◌, ℕ, None, Some, Option, length, ap, arith, rules, sym, subst, Contains}
use Rattle.std.proofs.Common.{replicate}
use Rattle.std.proofs.lemmas.List.{length-replicate}
use Rattle.std.proofs.lemmas.Option.{slice_get-get_or}
use Rattle.fixpoint.proofs.IsMarkedLemmas.{take_written}
use Rattle.fixpoint.proofs.RowsOfLemmas as t
use Rattle.fixpoint.proofs.FillsLemmas as f
use Rattle.fixpoint.proofs.distances.distances.Goals.{in-Some+in_ok-meet_all, in_default}
use Rattle.fixpoint.proofs.distances.distances.Goals as goal

pub meet-requires : goal.meet-requires
meet-requires c =
    let fresh : c.in_ok-far.far.items ≡ replicate (length c.args.steps.now) None = search rules in
    let v = ap length c.deref_mut.ensures.value in
    let e = ap length fresh in
    let l = length-replicate {A = Option ℕ} (length c.args.steps.now) None in
    let lt = c.requires.from in
    omega (arith, v, e, l, lt)

pub loop-head-init : goal.loop-head-init
loop-head-init c =
    let fresh : c.in_ok-far.far.items ≡ replicate (length c.args.steps.now) None = search rules in
    let v = c.deref_mut.ensures.value in
    let n = ap length v in
    let k = c.in_ok-meet.ensures.count in
    let ok = c.in_ok-far.far.ok.0 in
    let new = take_written c.meet.new.far c.in_ok-far.far.items c.in_ok-far.far.len
    (omega (arith, k, n)) (omega (arith, ok)) in
    rw new (f.filling_start _ _ (length c.args.steps.now) _ _ _ _ (sym (t.length-slices c.args.steps.now))
    (v ∙ fresh) (ap length (v ∙ fresh) ∙ length-replicate {A = Option ℕ} (length c.args.steps.now) None)
    c.new-queue.ensures.items
    c.in_ok-meet.ensures)

pub index-requires : goal.index-requires
index-requires c =
    let lt = c.loop-head-test.true in
    let l = c.len.ensures in
    let q = c.loop-head.queue.ok.0 in
    let here = f.head_at c.loop-head.queue.items c.loop-head.head c.index-n.result.now (omega (arith, lt, l, q))
    c.index-n.ensures in
    let in_far = f.head_within _ _ _ _ _ _ c.loop-head.invariant here in
    let ok = c.loop-head.far.ok.0 in
    omega (arith, in_far, ok)

pub bounds-steps-n : goal.bounds-steps-n
bounds-steps-n c =
    let lt = c.loop-head-test.true in
    let l = c.len.ensures in
    let q = c.loop-head.queue.ok.0 in
    let here = f.head_at c.loop-head.queue.items c.loop-head.head c.index-n.result.now (omega (arith, lt, l, q))
    c.index-n.ensures in
    let in_far = f.head_within _ _ _ _ _ _ c.loop-head.invariant here in
    let k = c.loop-head.invariant.count in
    let e = t.length-slices c.args.steps.now in
    omega (arith, in_far, k, e)

pub offset_bounds-steps-n : goal.offset_bounds-steps-n
offset_bounds-steps-n c = let lt = bounds-steps-n c in search (rules, lt)

pub overflow_add-d : goal.overflow_add-d
overflow_add-d c =
    let lt = c.loop-head-test.true in
    let l = c.len.ensures in
    let q = c.loop-head.queue.ok.0 in
    let here = f.head_at c.loop-head.queue.items c.loop-head.head c.index-n.result.now (omega (arith, lt, l, q))
    c.index-n.ensures in
    let in_far = f.head_within _ _ _ _ _ _ c.loop-head.invariant here in
    let far = f.far_at c.loop-head.far.items c.index-n.result.now c.in-Some.d c.index.result.now in_far c.index.ensures
    c.in-Some.is in
    let low = f.head_low _ _ _ _ _ _ c.loop-head.invariant here c.in-Some.d far in
    let most = c.len.type_inv in
    omega (arith, lt, low, most)

pub meet_all-requires : goal.meet_all-requires
meet_all-requires c = λ m h.
    let lt = c.loop-head-test.true in
    let l = c.len.ensures in
    let q = c.loop-head.queue.ok.0 in
    let here = f.head_at c.loop-head.queue.items c.loop-head.head c.index-n.result.now (omega (arith, lt, l, q))
    c.index-n.ensures in
    let in_far = f.head_within _ _ _ _ _ _ c.loop-head.invariant here in
    let k = c.loop-head.invariant.count in
    let e = t.length-slices c.args.steps.now in
    let row = t.slice_now c.args.steps.now c.index-n.result.now (omega (arith, in_far, k, e)) in
    let below = c.requires.within.within _ m (subst (λ v. Contains v m) (sym row) h) in
    let v = ap length c.deref_mut-in-Some.ensures.value in
    omega (arith, below, v, k)

pub loop-head-preserved : goal.loop-head-preserved
loop-head-preserved c =
    let lt = c.loop-head-test.true in
    let l = c.len.ensures in
    let q = c.loop-head.queue.ok.0 in
    let here = f.head_at c.loop-head.queue.items c.loop-head.head c.index-n.result.now (omega (arith, lt, l, q))
    c.index-n.ensures in
    let in_far = f.head_within _ _ _ _ _ _ c.loop-head.invariant here in
    let k = c.loop-head.invariant.count in
    let e = t.length-slices c.args.steps.now in
    let row = t.slice_now c.args.steps.now c.index-n.result.now (omega (arith, in_far, k, e)) in
    elim c.match-index.branch [
      | in-Some+in_ok-meet_all w ↦ (
          let far = f.far_at c.loop-head.far.items c.index-n.result.now w.in-Some.d c.index.result.now in_far
          c.index.ensures w.in-Some.is in
          let v = w.deref_mut-in-Some.ensures.value in
          let m = w.in_ok-meet_all.ensures.count in
          let g = ap length v in
          let ok = c.loop-head.far.ok.0 in
          let new = take_written w.meet_all.new.far c.loop-head.far.items c.loop-head.far.len
          (omega (arith, m, g)) (omega (arith, ok)) in
          rw (w.far-is, w.queue-is, new) (f.filling_next _ _ _ _ _ here far c.loop-head.invariant
          (rw (row, ← v) w.in_ok-meet_all.ensures))
          )
      | in_default w ↦ (
          let reported = f.head_reported _ _ _ _ _ _ c.loop-head.invariant here in
          let no : Some (Some reported.0) ≡ Some None = sym reported.1
          ∙ (slice_get-get_or c.loop-head.far.items c.index-n.result.now c.index.result.now in_far
          ∙ ap Some (sym c.index.ensures ∙ w.in_default.is)) in
          absurd (cc no)
          )
    ]

pub returns : goal.returns
returns c = f.filling_done _ _ _ _ _ c.loop-head.invariant
    (let le = c.loop-head-test.false in let l = c.len.ensures in let q = c.loop-head.queue.ok.0 in
    omega (arith, le, l, q))
