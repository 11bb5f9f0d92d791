-- Filled sets, in kinds by the rows of a dotted rule.
-- Serves: judge
use Rattle.std.proofs.Common.{◌≡◌, ◌↔◌, ◌⊎◌, inl, inr, ⊎_elim, ℕ, zero, suc, ◌+◌, ◌<◌, List, [], ◌∷◌, ◌++◌}
use Rattle.std.proofs.Common.{length, slice_index_or, Contains, refl, sym, ap, subst, ◌∙◌, arith, set}
use Rattle.std.proofs.lemmas.Bool.{cases_lt}
use Rattle.std.proofs.lemmas.List.{get_or-set_same, get_or-set_other}
use Rattle.std.specs.Prelude.{replicate}
use Rattle.earley.specs.RowSets.{HasAt}
use Rattle.flatgrammar.proofs.CallOfLemmas.{equal_or}
use Rattle.earley.specs.RowIndexes.{rows_at, HasAlone, Indexes, AreIndexedBelow, AreIndexed}
use Rattle.earley.specs.declared.row_index.FilledSets.{FilledSets}
use Rattle.earley.specs.declared.row_sets.KeptRows.{KeptRows}
use Rattle.earley.proofs.RowItemsLemmas.{none_contains, no_number, index_past}
use Rattle.earley.proofs.RowWorklistLemmas.{length_no}

-- no rows have no number
none_at : (p k : ℕ) → HasAt [] p k → ⊥
none_at p k h = none_contains k h

-- a dotted rule that has a number is one of the rows
pub position_within : (rows : List (List ℕ)) (p k : ℕ) → HasAt rows p k → p < length rows
position_within rows p k h = ⊎_elim (λ lt. lt)
    (λ past. absurd (none_contains k (subst (λ v. Contains v k) (index_past rows p past) h)))
    (cases_lt p (length rows))

-- one set more
record IsOlder (sets : List KeptRows) (kept : KeptRows) (o : ℕ) : Type 0 where
  rows : rows_at (sets ++ kept ∷ []) o ≡ rows_at sets o
  other : o ≡ length sets → ⊥

record IsNewest (sets : List KeptRows) (kept : KeptRows) (o : ℕ) : Type 0 where
  is : o ≡ length sets
  rows : rows_at (sets ++ kept ∷ []) o ≡ kept.rows.items
  none : rows_at sets o ≡ []

rows_more : (sets : List KeptRows) (kept : KeptRows) (o : ℕ) → IsOlder sets kept o ⊎ IsNewest sets kept o
rows_more [] kept zero = inr (record { is = refl; rows = refl; none = refl })
rows_more [] kept (suc o) = inl (record { rows = refl; other = λ same. absurd (omega (arith, same)) })
rows_more (s ∷ sets) kept zero = inl (record { rows = refl; other = λ same. absurd (omega (arith, same)) })
rows_more (s ∷ sets) kept (suc o) = ⊎_elim
    (λ h. inl (record { rows = h.rows; other = λ same. h.other (omega (arith, same)) }))
    (λ h. inr (record { is = ap suc h.is; rows = h.rows; none = h.none })) (rows_more sets kept o)

pub indexed_none : (positions : ℕ) (filled : FilledSets) → filled.sets.items ≡ [] → filled.own.items
    ≡ replicate positions []
    → filled.rest.items ≡ replicate positions [] → filled.union.items ≡ replicate positions []
    → AreIndexed positions filled
indexed_none positions filled none own rest union = record {
  own_count = ap (λ v. length v) own ∙ length_no positions;
  rest_count = ap (λ v. length v) rest ∙ length_no positions;
  union_count = ap (λ v. length v) union ∙ length_no positions;
  own = λ p o k h. absurd (no_number positions p o (subst (λ v. HasAt v p o) own h));
  there = λ p o k h. absurd (none_at p k (subst (λ v. HasAt (rows_at v o) p k) none h));
  united = λ p o k h. absurd (none_at p k (subst (λ v. HasAt (rows_at v o) p k) none h));
}

-- more numbers in the row of a dotted rule
pub joined_at : (rows : List (List ℕ)) (position : ℕ) (Q : ℕ → Type 0) (row row' : List ℕ) → position < length rows
    → row ≡ slice_index_or rows position [] → ((x : ℕ) → Contains row' x ↔ (Contains row x ⊎ Q x))
    → (p x : ℕ) → HasAt (set rows position row') p x ↔ (HasAt rows p x ⊎ ((p ≡ position) × Q x))
joined_at rows position Q row row' lt is more p x = by (equal_or p position)
  where
    by : (p ≡ position) ⊎ (p ≡ position → ⊥) → HasAt (set rows position row') p x
        ↔ (HasAt rows p x ⊎ ((p ≡ position) × Q x))
    by (inl same) = subst (λ v. HasAt (set rows position row') v x ↔ (HasAt rows v x ⊎ ((v ≡ position) × Q x)))
        (sym same) (subst (λ v. Contains v x ↔ (HasAt rows position x ⊎ ((position ≡ position) × Q x)))
        (sym (get_or-set_same rows position row' [] lt)) (
          (λ h. ⊎_elim (λ g. inl (subst (λ v. Contains v x) is g)) (λ g. inr (refl, g)) ((more x).0 h)),
          (λ h. (more x).1 (⊎_elim (λ g. inl (subst (λ v. Contains v x) (sym is) g)) (λ g. inr g.1) h)),
        ))
    by (inr other) = subst (λ v. Contains v x ↔ (HasAt rows p x ⊎ ((p ≡ position) × Q x)))
        (sym (get_or-set_other rows position p row' [] other)) (
          (λ h. inl h),
          (λ h. ⊎_elim (λ g. g) (λ g. absurd (other g.0)) h),
        )

-- the row of a dotted rule decides
module _ (number position : ℕ) (row : List ℕ) (own rest union new : List (List ℕ)) where
  pub alone_indexes : HasAlone row number
      → ((p x : ℕ) → HasAt new p x ↔ (HasAt own p x ⊎ ((p ≡ position) × (x ≡ number))))
      → Indexes number position row own rest union new rest union
  alone_indexes alone members = record {
    own = λ p o h. ⊎_elim (λ old. inl old) (λ g. inr (g.0, g.1, alone)) ((members p o).0 h);
    own_kept = λ p o h. (members p o).1 (inl h);
    rest_kept = λ p o h. h;
    union_kept = λ p k h. h;
    there = λ k h. inl ((members position number).1 (inr (refl, refl)));
    united = λ k h. inl ((members position number).1 (inr (refl, refl)));
  }

  pub rest_indexes : ((p x : ℕ) → HasAt new p x ↔ (HasAt rest p x ⊎ ((p ≡ position) × (x ≡ number))))
      → (more : List (List ℕ)) → ((p x : ℕ) → HasAt more p x ↔ (HasAt union p x ⊎ ((p ≡ position) × Contains row x)))
      → Indexes number position row own rest union own new more
  rest_indexes members more joined = record {
    own = λ p o h. inl h;
    own_kept = λ p o h. h;
    rest_kept = λ p o h. (members p o).1 (inl h);
    union_kept = λ p k h. (joined p k).1 (inl h);
    there = λ k h. inr ((members position number).1 (inr (refl, refl)));
    united = λ k h. inr ((joined position k).1 (inr (refl, h)));
  }

  pub none_indexes : ((k : ℕ) → Contains row k → ⊥) → Indexes number position row own rest union own rest union
  none_indexes none = record {
    own = λ p o h. inl h;
    own_kept = λ p o h. h;
    rest_kept = λ p o h. h;
    union_kept = λ p k h. h;
    there = λ k h. absurd (none k h);
    united = λ k h. absurd (none k h);
  }

-- the dotted rules as far as a loop has come
pub below_none : (number : ℕ) (rows own rest union : List (List ℕ))
    → AreIndexedBelow number 0 rows own rest union own rest union
below_none number rows own rest union = record {
  own = λ p o h. inl h;
  own_kept = λ p o h. h;
  rest_kept = λ p o h. h;
  union_kept = λ p k h. h;
  there = λ p k lt h. absurd (omega (arith, lt));
  united = λ p k lt h. absurd (omega (arith, lt));
}

pub below_more : (number position : ℕ) (row : List ℕ)
    (rows own rest union own' rest' union' own'' rest'' union'' : List (List ℕ)) → row ≡ slice_index_or rows position []
    → AreIndexedBelow number position rows own rest union own' rest' union'
    → Indexes number position row own' rest' union' own'' rest'' union''
    → AreIndexedBelow number (position + 1) rows own rest union own'' rest'' union''
below_more number position row rows own rest union own' rest' union' own'' rest'' union'' is was more = record {
  own = λ p o h. ⊎_elim (λ old. was.own p o old)
      (λ g. inr (
        g.1,
        λ k. subst (λ v. HasAt rows v k ↔ (k ≡ number)) (sym g.0)
            (subst (λ v. Contains v k ↔ (k ≡ number)) is (g.2 k)),
      )) (more.own p o h);
  own_kept = λ p o h. more.own_kept p o (was.own_kept p o h);
  rest_kept = λ p o h. more.rest_kept p o (was.rest_kept p o h);
  union_kept = λ p k h. more.union_kept p k (was.union_kept p k h);
  there = λ p k lt h. ⊎_elim
      (λ low. ⊎_elim (λ g. inl (more.own_kept p number g)) (λ g. inr (more.rest_kept p number g)) (was.there p k low h))
      (λ past. let same : p ≡ position = omega (arith, lt, past) in
      subst (λ v. HasAt own'' v number ⊎ HasAt rest'' v number) (sym same)
      (more.there k (subst (λ v. Contains v k) (sym is) (subst (λ v. HasAt rows v k) same h))))
      (cases_lt p position);
  united = λ p k lt h. ⊎_elim
      (λ low. ⊎_elim (λ g. inl (more.own_kept p number g)) (λ g. inr (more.union_kept p k g)) (was.united p k low h))
      (λ past. let same : p ≡ position = omega (arith, lt, past) in
      subst (λ v. HasAt own'' v number ⊎ HasAt union'' v k) (sym same)
      (more.united k (subst (λ v. Contains v k) (sym is) (subst (λ v. HasAt rows v k) same h))))
      (cases_lt p position);
}

-- a set after the others
pub indexed_more : (positions : ℕ) (kept : KeptRows) (old new : FilledSets) → AreIndexed positions old
    → length new.own.items ≡ length old.own.items → length new.rest.items ≡ length old.rest.items
    → length new.union.items ≡ length old.union.items → new.sets.items ≡ old.sets.items ++ kept ∷ []
    → AreIndexedBelow (length old.sets.items) (length kept.rows.items) kept.rows.items old.own.items old.rest.items
    old.union.items new.own.items new.rest.items new.union.items
    → AreIndexed positions new
indexed_more positions kept old new was own_same rest_same union_same is below = record {
  own_count = own_same ∙ was.own_count;
  rest_count = rest_same ∙ was.rest_count;
  union_count = union_same ∙ was.union_count;
  own = λ p o k h. subst (λ v. HasAt (rows_at v o) p k ↔ (k ≡ o)) (sym is)
      (⊎_elim (λ g. of_old p o k g (rows_more old.sets.items kept o))
      (λ g. of_new p o k g.0 (g.1 k) (rows_more old.sets.items kept o)) (below.own p o h));
  there = λ p o k h. stands p o k (subst (λ v. HasAt (rows_at v o) p k) is h) (rows_more old.sets.items kept o);
  united = λ p o k h. joins p o k (subst (λ v. HasAt (rows_at v o) p k) is h) (rows_more old.sets.items kept o);
}
  where
    of_old : (p o k : ℕ) → HasAt old.own.items p o → IsOlder old.sets.items kept o ⊎ IsNewest old.sets.items kept o
        → HasAt (rows_at (old.sets.items ++ kept ∷ []) o) p k ↔ (k ≡ o)
    of_old p o k h (inl older) = subst (λ v. HasAt v p k ↔ (k ≡ o)) (sym older.rows) (was.own p o k h)
    of_old p o k h (inr newest) =
        absurd (none_at p o (subst (λ v. HasAt v p o) newest.none ((was.own p o o h).1 refl)))

    of_new : (p o k : ℕ) → o ≡ length old.sets.items
        → HasAt kept.rows.items p k ↔ (k ≡ length old.sets.items)
        → IsOlder old.sets.items kept o ⊎ IsNewest old.sets.items kept o
        → HasAt (rows_at (old.sets.items ++ kept ∷ []) o) p k ↔ (k ≡ o)
    of_new p o k same alone (inl older) = absurd (older.other same)
    of_new p o k same alone (inr newest) = subst (λ v. HasAt v p k ↔ (k ≡ o)) (sym newest.rows)
        (subst (λ v. HasAt kept.rows.items p k ↔ (k ≡ v)) (sym same) alone)

    stands : (p o k : ℕ) → HasAt (rows_at (old.sets.items ++ kept ∷ []) o) p k
        → IsOlder old.sets.items kept o ⊎ IsNewest old.sets.items kept o
        → HasAt new.own.items p o ⊎ HasAt new.rest.items p o
    stands p o k h (inl older) = ⊎_elim (λ g. inl (below.own_kept p o g)) (λ g. inr (below.rest_kept p o g))
        (was.there p o k (subst (λ v. HasAt v p k) older.rows h))
    stands p o k h (inr newest) =
        let here = subst (λ v. HasAt v p k) newest.rows h in
        subst (λ v. HasAt new.own.items p v ⊎ HasAt new.rest.items p v) (sym newest.is)
        (below.there p k (position_within kept.rows.items p k here) here)

    joins : (p o k : ℕ) → HasAt (rows_at (old.sets.items ++ kept ∷ []) o) p k
        → IsOlder old.sets.items kept o ⊎ IsNewest old.sets.items kept o
        → HasAt new.own.items p o ⊎ HasAt new.union.items p k
    joins p o k h (inl older) = ⊎_elim (λ g. inl (below.own_kept p o g)) (λ g. inr (below.union_kept p k g))
        (was.united p o k (subst (λ v. HasAt v p k) older.rows h))
    joins p o k h (inr newest) =
        let here = subst (λ v. HasAt v p k) newest.rows h in
        subst (λ v. HasAt new.own.items p v ⊎ HasAt new.union.items p k) (sym newest.is)
        (below.united p k (position_within kept.rows.items p k here) here)
