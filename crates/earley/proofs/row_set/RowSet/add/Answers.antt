-- The dotted rule gets the numbers, and stands in the queue.
use Rattle.std.proofs.Common.{◌≡◌, ◌↔◌, ◌⊎◌, ℕ, ◌<◌, [], length, slice_index_or, subst, sym, ◌∙◌, arith, Contains, set}
use Rattle.earley.specs.RowSets.{HasAt, HasSome, AddsAt}
use Rattle.earley.proofs.WordInLemmas.{default_same}
use Rattle.earley.proofs.RowSetsLemmas.{queued_more, queued_set, adds_at, adds_none}
use Rattle.earley.proofs.row_set.RowSet.add.Goals as goal

pub invariant_of-self : goal.invariant_of-self
invariant_of-self c =
    let lt = subst (λ v. c.args.position < length v.all) (sym c.self.view_is) c.requires in
    queued_more c.self.inside.rows.items c.self.inside.pending.items c.self.inside.queue.items c.self.invariant
    c.args.position lt c.enqueue.new.queue.items c.enqueue.ensures.kept c.enqueue.ensures.only

pub invariant_of-self-in_err-merge : goal.invariant_of-self-in_err-merge
invariant_of-self-in_err-merge c =
    let lt = subst (λ v. c.args.position < length v.all) (sym c.self.view_is) c.requires in
    queued_set c.self.inside.rows.items c.self.inside.pending.items c.self.inside.queue.items c.self.invariant
    c.args.position lt c.enqueue.new.queue.items c.merge.new.self c.merge.new.pending c.enqueue.ensures.kept
    c.enqueue.ensures.only (subst (λ v. Contains c.enqueue.new.queue.items c.args.position ⊎ HasSome v c.args.position)
    c.deref.ensures.value c.in_ok-enqueue.ensures.there)

pub invariant_of-self-2 : goal.invariant_of-self-2
invariant_of-self-2 c =
    let lt = subst (λ v. c.args.position < length v.all) (sym c.self.view_is) c.requires in
    queued_set c.self.inside.rows.items c.self.inside.pending.items c.self.inside.queue.items c.self.invariant
    c.args.position lt c.enqueue.new.queue.items c.merge.new.self c.merge.new.pending c.enqueue.ensures.kept
    c.enqueue.ensures.only (subst (λ v. Contains c.enqueue.new.queue.items c.args.position ⊎ HasSome v c.args.position)
    c.deref.ensures.value c.in_ok-enqueue.ensures.there)

pub returns-then-has_all : goal.returns-then-has_all
returns-then-has_all c =
    let all = c.self.inside.rows.items in
    let p = c.args.position in
    let lt : p < length all = subst (λ v. p < length v.all) (sym c.self.view_is) c.requires in
    let row : c.index.result.now ≡ slice_index_or all p [] = c.index.ensures
    ∙ default_same all p c.index.result.now [] lt in
    adds_none p (λ k. Contains c.args.found.now k) c.args.self.now
    (λ k h. subst (λ v. HasAt v.all p k) c.self.view_is
    (subst (λ r. Contains r k) row (c.has_all.ensures.0 c.if-has_all.true k h)))

pub returns : goal.returns
returns c =
    let all = c.self.inside.rows.items in
    let pending = c.self.inside.pending.items in
    let p = c.args.position in
    let lt : p < length all = subst (λ v. p < length v.all) (sym c.self.view_is) c.requires in
    let size = c.self.invariant.count in
    let short : p < length pending = omega (arith, lt, size) in
    let row : c.index_mut.result.now ≡ slice_index_or all p [] = c.index_mut.ensures.value
    ∙ default_same all p c.index_mut.result.now [] lt in
    let wait : c.index_mut-2.result.now ≡ slice_index_or pending p [] = c.index_mut-2.ensures.value
    ∙ default_same pending p c.index_mut-2.result.now [] short in
    subst (λ v. AddsAt p (λ k. Contains c.args.found.now k) v
    (record { all = set all p c.merge.new.self; pending = set pending p c.merge.new.pending })) c.self.view_is
    (adds_at all pending c.self.inside.queue.items c.self.invariant p lt c.args.found.now c.merge.new.self
    c.merge.new.pending
    (subst (λ r. (k : ℕ) → Contains c.merge.new.self k ↔ (Contains r k ⊎ Contains c.args.found.now k)) row
    c.in_ok-merge.ensures.members)
    (subst (λ r. (k : ℕ) → Contains c.merge.new.pending k ↔ (Contains (slice_index_or pending p []) k
    ⊎ (Contains c.args.found.now k × (Contains r k → ⊥)))) row
    (subst (λ w. (k : ℕ) → Contains c.merge.new.pending k ↔ (Contains w k
    ⊎ (Contains c.args.found.now k × (Contains c.index_mut.result.now k → ⊥)))) wait c.in_ok-merge.ensures.pending)))
