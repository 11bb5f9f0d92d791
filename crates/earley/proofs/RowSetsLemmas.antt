-- Sets of rows with what is pending.
-- Serves: RowSet::add, RowSet::new, RowSet::take
use Rattle.std.proofs.Common.{◌≡◌, ◌≢◌, ◌↔◌, ◌⊎◌, inl, inr, ⊎_elim, ℕ, ◌<◌, List, [], ◌∷◌, ◌++◌, length, ◌==◌}
use Rattle.std.proofs.Common.{zero, suc, slice_index_or, set, Contains, refl, sym, ap, subst, ◌∙◌, arith, true, false}
use Rattle.std.proofs.lemmas.Bool.Decides.{eqb_tells}
use Rattle.std.proofs.lemmas.List.{get_or-set_same, get_or-set_other, length-set}
use Rattle.std.proofs.lemmas.List.Elements.{Contains-append_left, Contains-push, Contains-push_cases}
use Rattle.std.specs.Prelude.{replicate}
use Rattle.earley.specs.RowSets.{Rows, HasAt, HasSome, AreQueued, AddsAt, TakesAt}

abbrev Same : ℕ → ℕ → Type 0
Same q p = (((q == p) ≡ true) × (q ≡ p)) ⊎ (((q == p) ≡ false) × (q ≢ p))

at_same : (rows : List (List ℕ)) (p q k : ℕ) (row : List ℕ) → p < length rows → q ≡ p → HasAt (set rows p row) q k
    → Contains row k
at_same rows p q k row lt is h = subst (λ v. Contains v k) (get_or-set_same rows p row [] lt)
    (subst (λ v. HasAt (set rows p row) v k) is h)

to_same : (rows : List (List ℕ)) (p q k : ℕ) (row : List ℕ) → p < length rows → q ≡ p → Contains row k
    → HasAt (set rows p row) q k
to_same rows p q k row lt is h = subst (λ v. HasAt (set rows p row) v k) (sym is)
    (subst (λ v. Contains v k) (sym (get_or-set_same rows p row [] lt)) h)

at_other : (rows : List (List ℕ)) (p q k : ℕ) (row : List ℕ) → q ≢ p → HasAt (set rows p row) q k → HasAt rows q k
at_other rows p q k row other h = subst (λ v. Contains v k) (get_or-set_other rows p q row [] other) h

to_other : (rows : List (List ℕ)) (p q k : ℕ) (row : List ℕ) → q ≢ p → HasAt rows q k → HasAt (set rows p row) q k
to_other rows p q k row other h = subst (λ v. Contains v k) (sym (get_or-set_other rows p q row [] other)) h

none_in : (k : ℕ) → Contains [] k → ⊥
none_in k h = omega (arith, h.1)

none_among : (n p k : ℕ) → HasAt (replicate n []) p k → ⊥
none_among zero p k h = none_in k h
none_among (suc n) zero k h = none_in k h
none_among (suc n) (suc p) k h = none_among n p k h

pub queued_none : (n : ℕ) (all pending : List (List ℕ)) (queue : List ℕ) → all ≡ replicate n []
    → pending ≡ replicate n []
    → queue ≡ [] → AreQueued all pending queue
queued_none n all pending queue all_is pending_is is = record {
  count = ap (λ v. length v) (pending_is ∙ sym all_is);
  queued = λ p k h. absurd (none_among n p k (subst (λ v. HasAt v p k) pending_is h));
  below = λ p h. absurd (none_in p (subst (λ v. Contains v p) is h));
}

module _ (all pending : List (List ℕ)) (queue : List ℕ) (are : AreQueued all pending queue) (p : ℕ)
    (lt : p < length all) where
  pub queued_more : (queue' : List ℕ) → ((q : ℕ) → Contains queue q → Contains queue' q)
      → ((q : ℕ) → Contains queue' q → Contains queue q ⊎ (q ≡ p)) → AreQueued all pending queue'
  queued_more queue' kept only = record {
    count = are.count;
    queued = λ q k h. kept q (are.queued q k h);
    below = λ q h. ⊎_elim (λ old. are.below q old) (λ is. subst (λ v. v < length all) (sym is) lt) (only q h);
  }

  pub queued_set : (queue' : List ℕ) (row wait : List ℕ) → ((q : ℕ) → Contains queue q → Contains queue' q)
      → ((q : ℕ) → Contains queue' q → Contains queue q ⊎ (q ≡ p)) → Contains queue' p ⊎ HasSome pending p
      → AreQueued (set all p row) (set pending p wait) queue'
  queued_set queue' row wait kept only there = record {
    count = length-set pending p wait ∙ are.count ∙ sym (length-set all p row);
    queued = λ q k h. by q k (eqb_tells q p) h;
    below = λ q h. ⊎_elim (λ old. less q (are.below q old))
        (λ is. subst (λ v. v < length (set all p row)) (sym is) (less p lt)) (only q h);
  }
    where
      less : (q : ℕ) → q < length all → q < length (set all p row)
      less q below = let size = length-set all p row in omega (arith, below, size)

      here : Contains queue' p
      here = ⊎_elim (λ h. h) (λ h. kept p (are.queued p h.0 h.1)) there

      by : (q k : ℕ) → Same q p → HasAt (set pending p wait) q k → Contains queue' q
      by q k (inl is) h = subst (λ v. Contains queue' v) (sym is.1) here
      by q k (inr is_not) h = kept q (are.queued q k (at_other pending p q k wait is_not.1 h))

  pub adds_at : (found row wait : List ℕ)
      → ((k : ℕ) → Contains row k ↔ (Contains (slice_index_or all p []) k ⊎ Contains found k))
      → ((k : ℕ) → Contains wait k ↔ (Contains (slice_index_or pending p []) k
      ⊎ (Contains found k × (Contains (slice_index_or all p []) k → ⊥))))
      → AddsAt p (λ k. Contains found k) (record { all = all; pending = pending })
      (record { all = set all p row; pending = set pending p wait })
  adds_at found row wait rows waits = record {
    count = length-set all p row;
    all = λ q k. of_all q k (eqb_tells q p);
    pending = λ q k. of_pending q k (eqb_tells q p);
  }
    where
      short : p < length pending
      short = let size = are.count in omega (arith, lt, size)

      of_all : (q k : ℕ) → Same q p
          → HasAt (set all p row) q k ↔ (HasAt all q k ⊎ ((q ≡ p) × Contains found k))
      of_all q k (inl is) = (
        (λ h. ⊎_elim (λ old. inl (subst (λ v. HasAt all v k) (sym is.1) old)) (λ new. inr (is.1, new))
            ((rows k).0 (at_same all p q k row lt is.1 h))),
        (λ h. to_same all p q k row lt is.1 ((rows k).1
            (⊎_elim (λ old. inl (subst (λ v. HasAt all v k) is.1 old)) (λ new. inr new.1) h))),
      )
      of_all q k (inr is_not) = (
        (λ h. inl (at_other all p q k row is_not.1 h)),
        (λ h. to_other all p q k row is_not.1 (⊎_elim (λ old. old) (λ new. absurd (is_not.1 new.0)) h)),
      )

      of_pending : (q k : ℕ) → Same q p → HasAt (set pending p wait) q k
          ↔ (HasAt pending q k ⊎ ((q ≡ p) × Contains found k × (HasAt all p k → ⊥)))
      of_pending q k (inl is) = (
        (λ h. ⊎_elim (λ old. inl (subst (λ v. HasAt pending v k) (sym is.1) old)) (λ new. inr (is.1, new.0, new.1))
            ((waits k).0 (at_same pending p q k wait short is.1 h))),
        (λ h. to_same pending p q k wait short is.1 ((waits k).1
            (⊎_elim (λ old. inl (subst (λ v. HasAt pending v k) is.1 old)) (λ new. inr (new.1, new.2)) h))),
      )
      of_pending q k (inr is_not) = (
        (λ h. inl (at_other pending p q k wait is_not.1 h)),
        (λ h. to_other pending p q k wait is_not.1 (⊎_elim (λ old. old) (λ new. absurd (is_not.1 new.0)) h)),
      )

-- what a dotted rule has already adds nothing
pub adds_none : (p : ℕ) (Q : ℕ → Type 0) (rows : Rows) → ((k : ℕ) → Q k → HasAt rows.all p k) → AddsAt p Q rows rows
adds_none p Q rows has = record {
  count = refl;
  all = λ q k. (
    (λ h. inl h),
    (λ h. ⊎_elim (λ old. old) (λ new. subst (λ v. HasAt rows.all v k) (sym new.0) (has k new.1)) h),
  );
  pending = λ q k. ((λ h. inl h), (λ h. ⊎_elim (λ old. old) (λ new. absurd (new.2 (has k new.1))) h));
}

module _ (all pending : List (List ℕ)) (queue rest : List ℕ) (p : ℕ) (are : AreQueued all pending queue)
    (is : queue ≡ rest ++ p ∷ []) where
  pub taken_below : p < length all
  taken_below = are.below p (subst (λ v. Contains v p) (sym is) (Contains-push rest p))

  pub queued_rest : (none : List ℕ) → none ≡ [] → AreQueued all (set pending p none) rest
  queued_rest none empty = record {
    count = length-set pending p none ∙ are.count;
    queued = λ q k h. by q k (eqb_tells q p) h;
    below = λ q h. are.below q (subst (λ v. Contains v q) (sym is) (Contains-append_left rest (p ∷ []) q h));
  }
    where
      short : p < length pending
      short = let size = are.count in let lt = taken_below in omega (arith, lt, size)

      by : (q k : ℕ) → Same q p → HasAt (set pending p none) q k → Contains rest q
      by q k (inl same) h =
          absurd (none_in k (subst (λ v. Contains v k) empty (at_same pending p q k none short same.1 h)))
      by q k (inr other) h = ⊎_elim (λ old. old) (λ same. absurd (other.1 (sym same)))
          (Contains-push_cases rest p q
          (subst (λ v. Contains v q) is (are.queued q k (at_other pending p q k none other.1 h))))

  pub takes_at : (row none : List ℕ) → none ≡ [] → row ≡ slice_index_or pending p []
      → TakesAt p row (record { all = all; pending = pending }) (record { all = all; pending = set pending p none })
  takes_at row none empty is_row = record {
    below = taken_below;
    all = refl;
    taken = λ k. ((λ h. subst (λ v. Contains v k) is_row h), (λ h. subst (λ v. Contains v k) (sym is_row) h));
    rest = λ q k. by q k (eqb_tells q p);
  }
    where
      short : p < length pending
      short = let size = are.count in let lt = taken_below in omega (arith, lt, size)

      by : (q k : ℕ) → Same q p → HasAt (set pending p none) q k ↔ (HasAt pending q k × (q ≡ p → ⊥))
      by q k (inl same) = (
        (λ h. absurd (none_in k (subst (λ v. Contains v k) empty (at_same pending p q k none short same.1 h)))),
        (λ h. absurd (h.1 same.1)),
      )
      by q k (inr other) = (
        (λ h. (at_other pending p q k none other.1 h, other.1)),
        (λ h. to_other pending p q k none other.1 h.0),
      )
