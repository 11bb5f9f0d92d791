-- The last dotted rule of the queue is taken.
use Rattle.std.proofs.Common.{◌≡◌, ℕ, [], slice_index_or, subst, sym, ◌∙◌, arith, set, IfNone, true, false}
use Rattle.earley.specs.RowSets.{HasAt, TakesAt}
use Rattle.earley.proofs.RowSetsLemmas.{taken_below, queued_rest, takes_at}
use Rattle.earley.proofs.WordInLemmas.{default_same}
use Rattle.earley.proofs.row_set.RowSet.take.Goals as goal

no_clash : false ≡ true → ⊥
no_clash same = absurd cc

pub returns-in_err-position-clause-none : goal.returns-in_err-position-clause-none
returns-in_err-position-clause-none c =
    subst (λ r. IfNone r ((p k : ℕ) → HasAt c.args.self.now.pending p k → ⊥)) (sym c.from_residual.ensures) (λ p k h.
    let there = c.self.invariant.queued p k (subst (λ v. HasAt v.pending p k) (sym c.self.view_is) h) in
    let some = there.1 in
    let long = c.self.inside.queue.ok.0 in
    no_clash (c.in_err-position.ensures.variant.1 (omega (arith, some, long))))

pub index_mut-requires : goal.index_mut-requires
index_mut-requires c =
    let below = taken_below c.self.inside.rows.items c.self.inside.pending.items c.self.inside.queue.items
    c.pop.new.self.items c.in_ok-position.position c.self.invariant c.in_ok-position.ensures.items in
    let size = c.self.invariant.count in
    let long = c.self.inside.pending.ok.0 in
    omega (arith, below, size, long)

pub invariant_of-self-2 : goal.invariant_of-self-2
invariant_of-self-2 c =
    queued_rest c.self.inside.rows.items c.self.inside.pending.items c.self.inside.queue.items c.pop.new.self.items
    c.in_ok-position.position c.self.invariant c.in_ok-position.ensures.items c.replace-row.new.dest
    (c.replace-row.ensures.after ∙ c.new.ensures)

pub returns-clause-some : goal.returns-clause-some
returns-clause-some c =
    let all = c.self.inside.rows.items in
    let pending = c.self.inside.pending.items in
    let p = c.in_ok-position.position in
    let below = taken_below all pending c.self.inside.queue.items c.pop.new.self.items p c.self.invariant
    c.in_ok-position.ensures.items in
    let size = c.self.invariant.count in
    let row : c.replace-row.result ≡ slice_index_or pending p [] = c.replace-row.ensures.value
    ∙ c.index_mut.ensures.value ∙ default_same pending p c.index_mut.result.now [] (omega (arith, below, size)) in
    subst (λ v. TakesAt p c.replace-row.result v
    (record { all = all; pending = set pending p c.replace-row.new.dest })) c.self.view_is
    (takes_at all pending c.self.inside.queue.items c.pop.new.self.items p c.self.invariant
    c.in_ok-position.ensures.items c.replace-row.result c.replace-row.new.dest
    (c.replace-row.ensures.after ∙ c.new.ensures) row)
