-- What calls lead to in the sets of the numbers of a row.
-- Serves: judge
use Rattle.std.proofs.Common.{◌≡◌, ◌↔◌, inl, inr, ⊎_elim, ℕ, zero, suc, ◌+◌, ◌<◌, ◌≤◌, List, [], ◌∷◌, length, take}
use Rattle.std.proofs.Common.{slice_get, slice_index_or, Some, None, Contains, refl, sym, subst, arith}
use Rattle.std.proofs.lemmas.Bool.{cases_lt}
use Rattle.earley.specs.RowSets.{Rows, HasAt, AddsAt}
use Rattle.earleyitems.specs.ItemSets.{IsAdvanced, waiting_in}
use Rattle.flatgrammar.specs.ItemClosures.{dot}
use Rattle.flatgrammar.specs.Positions.{In}
use Rattle.flatgrammar.specs.declared.closure.DottedRule.{DottedRule}
use Rattle.flatgrammar.specs.declared.flat_item.Item.{Item}
use Rattle.flatgrammar.specs.declared.tables.Tables as code_flat
use Rattle.earley.specs.DotTables.{AreSteps, AreCallsTo}
use Rattle.earley.specs.RowCharts.{row_views}
use Rattle.earley.specs.RowIndexes.{rows_at, AreIndexed, IsAfterIn, IsAfterLast, IsAfterOwn, IsAfterSome}
use Rattle.earley.specs.RowItems.{row_items, Gains, IsRowItem, IsAfterCall, IsCompletedBy}
use Rattle.earley.specs.declared.dot_table.Call.{Call}
use Rattle.earley.specs.declared.dot_table.DottedActions.{DottedActions}
use Rattle.earley.specs.declared.row_index.FilledSets.{FilledSets}
use Rattle.earley.specs.declared.row_sets.KeptRows.{KeptRows}
use Rattle.earley.proofs.GainsLemmas.{gains_none, gains_both, gains_as, gains_more, gains_at}
use Rattle.earley.proofs.RowItemsLemmas.{none_contains}
use Rattle.earley.proofs.RowStepLemmas.{front_cases, front_old, front_new, get_index, get_no_index}
use Rattle.earley.proofs.RowStepLemmas.{none_advanced, called_advanced, advanced_called}

-- the dotted rule's own sets
module _ (dots : List DottedRule) (call : Call) (own : List (List ℕ)) (row : List ℕ) (old new : Rows) where
  pub own_added : (mine both : List ℕ) → slice_get own call.from ≡ Some mine
      → ((k : ℕ) → Contains both k ↔ (Contains row k × Contains mine k))
      → AddsAt call.after (λ k. Contains both k) old new → Gains dots (IsAfterOwn dots call own row) old new
  own_added mine both is are adds =
      let same = get_index own call.from mine is in
      gains_as dots (λ a. (slice_get dots call.after ≡ Some (dot a.node a.step)) × Contains both a.origin)
      (IsAfterOwn dots call own row) old new
      (λ a h. let two = (are a.origin).0 h.1 in
      record { after = h.0; has = two.0; own = subst (λ v. Contains v a.origin) (sym same) two.1 })
      (λ a h. (h.after, (are a.origin).1 (h.has, subst (λ v. Contains v a.origin) same h.own)))
      (gains_at dots call.after (λ k. Contains both k) old new adds)

  pub own_none : slice_get own call.from ≡ None → Gains dots (IsAfterOwn dots call own row) old old
  own_none is = gains_none dots (IsAfterOwn dots call own row) old
      (λ a h. absurd (none_contains a.origin (subst (λ v. Contains v a.origin) (get_no_index own call.from is) h.own)))

-- the sets of the numbers of a row, as far as a loop has come
module _ (dots : List DottedRule) (call : Call) (sets : List KeptRows) (row : List ℕ) (old : Rows) where
  pub each_none : Gains dots (IsAfterIn dots call sets row 0) old old
  each_none = gains_none dots (IsAfterIn dots call sets row 0) old
      (λ a h. let lt = h.under in absurd (omega (arith, lt)))

  pub each_next : (from origin : ℕ) (mid new : Rows) → from ≤ origin → Contains row origin
      → ((k : ℕ) → Contains row k → from ≤ k → origin ≤ k) → Gains dots (IsAfterIn dots call sets row from) old mid
      → Gains dots (IsAfterCall dots call (rows_at sets origin)) mid new
      → Gains dots (IsAfterIn dots call sets row (origin + 1)) old new
  each_next from origin mid new le has least was gains =
      gains_both dots (IsAfterIn dots call sets row from) (IsAfterCall dots call (rows_at sets origin))
      (IsAfterIn dots call sets row (origin + 1)) old mid new was gains
      (λ a h. ⊎_elim
      (λ lt. inl (record { origin = h.origin; has = h.has; under = lt; after = h.after }))
      (λ past. let one = least h.origin h.has past in let two = h.under in
      let same : h.origin ≡ origin = omega (arith, one, two) in
      inr (subst (λ v. IsAfterCall dots call (rows_at sets v) a) same h.after))
      (cases_lt h.origin from))
      (λ a h. let lt = h.under in
      record { origin = h.origin; has = h.has; under = omega (arith, lt, le); after = h.after })
      (λ a h. record { origin = origin; has = has; under = omega arith; after = h })

  pub each_more : (from below : ℕ) (new : Rows) → ((k : ℕ) → Contains row k → k < below → k < from) → from ≤ below
      → Gains dots (IsAfterIn dots call sets row from) old new
      → Gains dots (IsAfterIn dots call sets row below) old new
  each_more from below new none le gains = gains_as dots (IsAfterIn dots call sets row from)
      (IsAfterIn dots call sets row below) old new
      (λ a h. let lt = h.under in
      record { origin = h.origin; has = h.has; under = omega (arith, lt, le); after = h.after })
      (λ a h. record { origin = h.origin; has = h.has; under = none h.origin h.has h.under; after = h.after })
      gains

-- a number of a set that is there
pub set_within : (sets : List KeptRows) (o p k : ℕ) → HasAt (rows_at sets o) p k → o < length sets
set_within [] o p k h = absurd (none_contains k h)
set_within (s ∷ sets) zero p k h = omega arith
set_within (s ∷ sets) (suc o) p k h = let lt = set_within sets o p k h in omega (arith, lt)

-- the set of the greatest number of a row
module _ (dots : List DottedRule) (call : Call) (sets : List KeptRows) (row : List ℕ) (old new : Rows) where
  abbrev Last : Item → Type 0
  Last = IsAfterLast dots call sets row (length sets)

  pub last_none : ((k : ℕ) → Contains row k → ⊥) → Gains dots Last old old
  last_none none = gains_none dots Last old (λ a h. absurd (none h.after.origin h.after.has))

  pub last_past : (o : ℕ) → Contains row o → length sets ≤ o → Gains dots Last old old
  last_past o has past = gains_none dots Last old
      (λ a h. let le = h.last o has in let lt = h.after.under in absurd (omega (arith, past, le, lt)))

  pub last_added : (o : ℕ) → Contains row o → ((k : ℕ) → Contains row k → k ≤ o) → o < length sets
      → Gains dots (IsAfterCall dots call (rows_at sets o)) old new → Gains dots Last old new
  last_added o has last lt gains = gains_as dots (IsAfterCall dots call (rows_at sets o)) Last old new
      (λ a h. record { after = record { origin = o; has = has; under = lt; after = h }; last = last })
      (λ a h. let le = h.last o has in let ge = last h.after.origin h.after.has in
      let same : h.after.origin ≡ o = omega (arith, le, ge) in
      subst (λ v. IsAfterCall dots call (rows_at sets v) a) same h.after.after)
      gains

  -- of one number at most
  pub last_single : ((j k : ℕ) → Contains row j → Contains row k → j ≡ k) → Gains dots Last old new
      → Gains dots (IsAfterIn dots call sets row (length sets)) old new
  last_single single gains = gains_as dots Last (IsAfterIn dots call sets row (length sets)) old new
      (λ a h. h.after)
      (λ a h. record {
        after = h;
        last = λ k has. let same = single k h.origin has h.has in omega (arith, same);
      })
      gains

-- the rest, where the dotted rule's own sets are done
module _ (dots : List DottedRule) (positions : ℕ) (filled : FilledSets) (are : AreIndexed positions filled)
    (call : Call)
    (row : List ℕ) where
  abbrev count : ℕ
  count = length filled.sets.items

  of_own : (a : Item) → IsAfterOwn dots call filled.own.items row a
      → IsAfterIn dots call filled.sets.items row count a
  of_own a h =
      let there = (are.own call.from a.origin a.origin h.own).1 refl in
      record {
        origin = a.origin;
        has = h.has;
        under = set_within filled.sets.items a.origin call.from a.origin there;
        after = (h.after, there);
      }

  is_own : (a : Item) → (h : IsAfterIn dots call filled.sets.items row count a)
      → HasAt filled.own.items call.from h.origin → IsAfterOwn dots call filled.own.items row a
  is_own a h own =
      let same : a.origin ≡ h.origin = (are.own call.from h.origin a.origin own).0 h.after.1 in record {
        after = h.after.0;
        has = subst (λ v. Contains row v) (sym same) h.has;
        own = subst (λ v. HasAt filled.own.items call.from v) (sym same) own;
      }

  pub own_and_rest : (old mid new : Rows) → Gains dots (IsAfterOwn dots call filled.own.items row) old mid
      → Gains dots (IsAfterIn dots call filled.sets.items row count) mid new
      → Gains dots (IsAfterIn dots call filled.sets.items row count) old new
  own_and_rest old mid new own gains = gains_both dots (IsAfterOwn dots call filled.own.items row)
      (IsAfterIn dots call filled.sets.items row count) (IsAfterIn dots call filled.sets.items row count) old mid new
      own gains (λ a h. inr h) (λ a h. of_own a h) (λ a h. h)

  module _ (old : Rows)
      (own : (a : Item) → IsAfterOwn dots call filled.own.items row a → IsRowItem dots old.all a) where
    pub rest_none : slice_get filled.rest.items call.from ≡ None
        → Gains dots (IsAfterIn dots call filled.sets.items row count) old old
    rest_none is = gains_none dots (IsAfterIn dots call filled.sets.items row count) old
        (λ a h. ⊎_elim (λ g. own a (is_own a h g))
        (λ g. absurd (none_contains h.origin
        (subst (λ v. Contains v h.origin) (get_no_index filled.rest.items call.from is) g)))
        (are.there call.from h.origin a.origin h.after.1))

    module _ (rest both : List ℕ) (is : slice_get filled.rest.items call.from ≡ Some rest)
        (two : (k : ℕ) → Contains both k ↔ (Contains row k × Contains rest k)) where
      after_in : (a : Item) → IsAfterIn dots call filled.sets.items both count a
          → IsAfterIn dots call filled.sets.items row count a
      after_in a h = record { origin = h.origin; has = ((two h.origin).0 h.has).0; under = h.under; after = h.after }

      pub rest_covered : (new : Rows) → Gains dots (IsAfterLast dots call filled.sets.items both count) old new
          → ((k : ℕ) → HasAt filled.union.items call.from k → HasAt new.all call.after k)
          → Gains dots (IsAfterIn dots call filled.sets.items row count) old new
      rest_covered new gains covered = gains_more dots (IsAfterLast dots call filled.sets.items both count)
          (IsAfterIn dots call filled.sets.items row count) old new (λ a h. after_in a h.after)
          (λ a h. ⊎_elim (λ g. inr (gains.kept a (own a (is_own a h g))))
          (λ g. inr (record { position = call.after; is = h.after.0; has = covered a.origin g }))
          (are.united call.from h.origin a.origin h.after.1))
          gains

      pub rest_single : (new : Rows) → ((j k : ℕ) → Contains both j → Contains both k → j ≡ k)
          → Gains dots (IsAfterLast dots call filled.sets.items both count) old new
          → Gains dots (IsAfterIn dots call filled.sets.items row count) old new
      rest_single new single last = gains_more dots (IsAfterIn dots call filled.sets.items both count)
          (IsAfterIn dots call filled.sets.items row count) old new (λ a h. after_in a h)
          (λ a h. ⊎_elim (λ g. inr (last.kept a (own a (is_own a h g))))
          (λ g. inl (record {
            origin = h.origin;
            has = (two h.origin).1
                (h.has, subst (λ v. Contains v h.origin) (get_index filled.rest.items call.from rest is) g);
            under = h.under;
            after = h.after;
          }))
          (are.there call.from h.origin a.origin h.after.1))
          (last_single dots call filled.sets.items both old new single last)

      pub rest_added : (mid new : Rows) → Gains dots (IsAfterLast dots call filled.sets.items both count) old mid
          → Gains dots (IsAfterIn dots call filled.sets.items both count) mid new
          → Gains dots (IsAfterIn dots call filled.sets.items row count) old new
      rest_added mid new last gains = gains_more dots (IsAfterIn dots call filled.sets.items both count)
          (IsAfterIn dots call filled.sets.items row count) old new (λ a h. after_in a h)
          (λ a h. ⊎_elim (λ g. inr (gains.kept a (last.kept a (own a (is_own a h g)))))
          (λ g. inl (record {
            origin = h.origin;
            has = (two h.origin).1
                (h.has, subst (λ v. Contains v h.origin) (get_index filled.rest.items call.from rest is) g);
            under = h.under;
            after = h.after;
          }))
          (are.there call.from h.origin a.origin h.after.1))
          (gains_both dots (IsAfterLast dots call filled.sets.items both count)
          (IsAfterIn dots call filled.sets.items both count) (IsAfterIn dots call filled.sets.items both count) old
          mid new last gains (λ a h. inr h) (λ a h. h.after) (λ a h. h))

-- the calls as far as a loop has come
module _ (dots : List DottedRule) (calls : List Call) (sets : List KeptRows) (row : List ℕ) (below : ℕ)
    (old : Rows) where
  pub some_none : Gains dots (IsAfterSome dots (take 0 calls) sets row below) old old
  some_none = gains_none dots (IsAfterSome dots (take 0 calls) sets row below) old (λ a h. nothing a h.stands)
    where
      nothing : {A : Type 0} (a : Item) {c : Call} → In c (take 0 calls) → A
      nothing a h = elim h [ ]

  pub some_next : (i : ℕ) (d : Call) (mid new : Rows) → i < length calls
      → Gains dots (IsAfterSome dots (take i calls) sets row below) old mid
      → Gains dots (IsAfterIn dots (slice_index_or calls i d) sets row below) mid new
      → Gains dots (IsAfterSome dots (take (i + 1) calls) sets row below) old new
  some_next i d mid new lt was gains =
      gains_both dots (IsAfterSome dots (take i calls) sets row below)
      (IsAfterIn dots (slice_index_or calls i d) sets row below)
      (IsAfterSome dots (take (i + 1) calls) sets row below) old mid new was gains
      (λ a h. ⊎_elim (λ g. inl (record { call = h.call; stands = g; after = h.after }))
      (λ same. inr (subst (λ v. IsAfterIn dots v sets row below a) same h.after))
      (front_cases h.call calls i d lt h.stands))
      (λ a h. record { call = h.call; stands = front_old h.call calls i d lt h.stands; after = h.after })
      (λ a h. record { call = slice_index_or calls i d; stands = front_new calls i d lt; after = h })

-- the set that waits for a completion
no_row_items : (dots : List DottedRule) → row_items dots [] ≡ []
no_row_items [] = refl
no_row_items (s ∷ dots) = refl

waits_at : (dots : List DottedRule) (sets : List KeptRows) (o : ℕ)
    → waiting_in (row_views dots sets) [] o ≡ row_items dots (rows_at sets o)
waits_at dots [] o = sym (no_row_items dots)
waits_at dots (s ∷ sets) zero = refl
waits_at dots (s ∷ sets) (suc o) = waits_at dots sets o

-- the calls of a target complete it
module _ (flat : code_flat.Tables) (dots : List DottedRule) (steps : List DottedActions)
    (are : AreSteps flat dots steps) (target : ℕ)
    (sets : List KeptRows) (row : List ℕ) (below : ℕ) (old : Rows) where
  pub some_completed : (calls : List Call) → AreCallsTo steps target calls → (new : Rows)
      → Gains dots (IsAfterSome dots calls sets row below) old new
      → Gains dots (IsCompletedBy flat (row_views dots sets) target row below) old new
  some_completed calls ones new gains = gains_as dots (IsAfterSome dots calls sets row below)
      (IsCompletedBy flat (row_views dots sets) target row below) old new
      (λ a h. let f = h.after in record {
        origin = f.origin;
        has = f.has;
        under = f.under;
        advanced = subst (λ v. IsAdvanced flat target v a) (sym (waits_at dots sets f.origin))
            (called_advanced flat dots steps are target (rows_at sets f.origin) calls ones a h.call h.stands f.after);
      })
      (λ a h. let g = advanced_called flat dots steps are target (rows_at sets h.origin) calls ones a
      (subst (λ v. IsAdvanced flat target v a) (waits_at dots sets h.origin) h.advanced) in record {
        call = g.0;
        stands = g.1;
        after = record { origin = h.origin; has = h.has; under = h.under; after = g.2 };
      })
      gains

  pub none_completed : length flat.nodes.items ≤ target
      → Gains dots (IsCompletedBy flat (row_views dots sets) target row below) old old
  none_completed le = gains_none dots (IsCompletedBy flat (row_views dots sets) target row below) old
      (λ a h. absurd (none_advanced flat dots steps are target (rows_at sets h.origin) a le
      (subst (λ v. IsAdvanced flat target v a) (waits_at dots sets h.origin) h.advanced)))
