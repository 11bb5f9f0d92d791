-- What rows predict, advance and complete.
-- Serves: judge
use Rattle.std.proofs.Common.{◌≡◌, ◌↔◌, ◌⊎◌, inl, inr, ⊎_elim, ℕ, zero, suc, ◌+◌, ◌<◌, ◌≤◌, true, false, Option}
use Rattle.std.proofs.Common.{Some}
use Rattle.std.proofs.Common.{None, List, [], ◌∷◌, length, take, slice_get, slice_index_or, Contains, refl}
use Rattle.std.proofs.Common.{sym}
use Rattle.std.proofs.Common.{◌∙◌, ap, subst, arith}
use Rattle.std.proofs.Common.{ltb}
use Rattle.std.proofs.lemmas.Bool.{cases_lt, ltb-true}
use Rattle.std.proofs.lemmas.Option.{slice_get-get_or}
use Rattle.earley.specs.RowSets.{Rows, HasAt, AddsAt}
use Rattle.earleyitems.proofs.ExpandLemmas.{take_one}
use Rattle.earleyitems.specs.ItemSets.{IsPredicted, IsAdvanced, IsCompleted, waiting_in, waiting_or}
use Rattle.earleyitems.specs.Charts.{IsWhole, IsFirst, IsAfter}
use Rattle.earleyitems.specs.ScannedItems.{IsScannedItem}
use Rattle.earleyitems.specs.Worklist.{AdvancesNullable, IsWork}
use Rattle.flatgrammar.proofs.CallOfLemmas.{some_same, get_below, get_map, past_get}
use Rattle.flatgrammar.proofs.InLemmas.{in_left, at_end, before_end, at_index_in}
use Rattle.flatgrammar.specs.ItemClosures.{item_at, dot, call_at, begin_count}
use Rattle.flatgrammar.specs.Positions.{In}
use Rattle.flatgrammar.specs.NodeSteps.{IfSomeSet}
use Rattle.flatgrammar.specs.TableViews.{call_of, count_in, done_of, null_of, takes_of, read_of, start_target}
use Rattle.flatgrammar.specs.declared.closure.DottedRule.{DottedRule}
use Rattle.flatgrammar.specs.declared.flat_item.Item.{Item}
use Rattle.flatgrammar.specs.declared.tables.Tables as code_flat
use Rattle.earley.specs.DotTables.{IsCallAt, IsCalledAt, IsStep, AreSteps, AreStarts, AreCallsTo}
use Rattle.earley.specs.RowCharts.{row_views}
use Rattle.earley.specs.RowItems.{row_items, Gains, IsAfterCall, IsFor, IsCompletedBy}
use Rattle.earley.specs.RowItems.{IsScannedFor}
use Rattle.earley.specs.declared.dot_table.Call.{Call}
use Rattle.earley.specs.declared.dot_table.Called.{Called}
use Rattle.earley.specs.declared.dot_table.DottedActions.{DottedActions}
use Rattle.earley.specs.declared.row_sets.KeptRows.{KeptRows}
use Rattle.earley.proofs.GainsLemmas.{gains_none, gains_both, gains_as, gains_at}
use Rattle.earley.proofs.DotTableLemmas.{get_or_index}
use Rattle.earley.proofs.RowItemsLemmas.{row_item_in, in_row_item, none_contains}

-- lists as far as a loop has come
pub front_cases : {A : Type 0} (a : A) (xs : List A) (i : ℕ) (d : A) → i < length xs → In a (take (i + 1) xs)
    → In a (take i xs) ⊎ (a ≡ slice_index_or xs i d)
front_cases a xs i d lt h = before_end a (slice_index_or xs i d) (take i xs)
    (subst (λ v. In a v) (take_one xs i d lt) h)

pub front_old : {A : Type 0} (a : A) (xs : List A) (i : ℕ) (d : A) → i < length xs → In a (take i xs)
    → In a (take (i + 1) xs)
front_old a xs i d lt h = subst (λ v. In a v) (sym (take_one xs i d lt)) (in_left (slice_index_or xs i d ∷ []) h)

pub front_new : {A : Type 0} (xs : List A) (i : ℕ) (d : A) → i < length xs
    → In (slice_index_or xs i d) (take (i + 1) xs)
front_new xs i d lt = subst (λ v. In (slice_index_or xs i d) v) (sym (take_one xs i d lt))
    (at_end (slice_index_or xs i d) (take i xs))

get_there : {A : Type 0} (xs : List A) (k : ℕ) → k < length xs → (a : A) × (slice_get xs k ≡ Some a)
get_there [] k lt = absurd (omega arith)
get_there (x ∷ xs) zero lt = (x, refl)
get_there (x ∷ xs) (suc k) lt = get_there xs k (omega (arith, lt))

pub get_index : (rows : List (List ℕ)) (p : ℕ) (row : List ℕ) → slice_get rows p ≡ Some row
    → slice_index_or rows p [] ≡ row
get_index [] p row is = absurd (cc is)
get_index (r ∷ rows) zero row is = some_same is
get_index (r ∷ rows) (suc p) row is = get_index rows p row is

pub get_no_index : (rows : List (List ℕ)) (p : ℕ) → slice_get rows p ≡ None → slice_index_or rows p [] ≡ []
get_no_index [] p is = refl
get_no_index (r ∷ rows) zero is = absurd (cc is)
get_no_index (r ∷ rows) (suc p) is = get_no_index rows p is

-- two ways to name a dotted rule
node_same : (at : DottedRule) (n k : ℕ) → at ≡ dot n k → at.node ≡ n
node_same at n k same = ap (λ v. v.node) same

step_same : (at : DottedRule) (n k : ℕ) → at ≡ dot n k → at.step ≡ k
step_same at n k same = ap (λ v. v.step) same

pub one_dot : {o : Option DottedRule} {s t : DottedRule} → o ≡ Some s → o ≡ Some t → s ≡ t
one_dot h g = some_same (sym h ∙ g)

pair_target : {r n s m : ℕ} → ◌≡◌ {A = Option (ℕ × ℕ)} (Some (r, n)) (Some (s, m)) → r ≡ s
pair_target h = ap (λ v. v.0) (some_same h)

pair_next : {r n s m : ℕ} → ◌≡◌ {A = Option (ℕ × ℕ)} (Some (r, n)) (Some (s, m)) → n ≡ m
pair_next h = ap (λ v. v.1) (some_same h)

-- these dotted rules, with the numbers of a row
pub record StartsIn (dots : List DottedRule) (starts row : List ℕ) (a : Item) : Type 0 where
  pub position : ℕ
  pub stands : In position starts
  pub is : slice_get dots position ≡ Some (dot a.node a.step)
  pub has : Contains row a.origin

module _ (dots : List DottedRule) (starts row : List ℕ) (old : Rows) where
  pub starts_none : Gains dots (StartsIn dots (take 0 starts) row) old old
  starts_none = gains_none dots (StartsIn dots (take 0 starts) row) old (λ a h. absurd (nothing a h.stands))
    where
      nothing : {A : Type 0} (a : Item) {p : ℕ} → In p (take 0 starts) → A
      nothing a h = elim h [ ]

  pub starts_next : (i d : ℕ) (mid new : Rows) → i < length starts → Gains dots (StartsIn dots (take i starts) row)
      old mid
      → AddsAt (slice_index_or starts i d) (λ k. Contains row k) mid new
      → Gains dots (StartsIn dots (take (i + 1) starts) row) old new
  starts_next i d mid new lt was adds = gains_both dots (StartsIn dots (take i starts) row)
      (λ a. (slice_get dots (slice_index_or starts i d) ≡ Some (dot a.node a.step)) × Contains row a.origin)
      (StartsIn dots (take (i + 1) starts) row) old mid new was
      (gains_at dots (slice_index_or starts i d) (λ k. Contains row k) mid new adds)
      (λ a h. ⊎_elim
      (λ g. inl (record { position = h.position; stands = g; is = h.is; has = h.has }))
      (λ same. inr (subst (λ v. slice_get dots v ≡ Some (dot a.node a.step)) same h.is, h.has))
      (front_cases h.position starts i d lt h.stands))
      (λ a h. record {
        position = h.position;
        stands = front_old h.position starts i d lt h.stands;
        is = h.is;
        has =
            h.has;
      })
      (λ a h. record {
        position = slice_index_or starts i d;
        stands = front_new starts i d lt;
        is = h.0;
        has = h.1;
      })

module _ (dots : List DottedRule) (call : Call) (rows : List (List ℕ)) (old new : Rows) where
  pub after_call : (row : List ℕ) → slice_get rows call.from ≡ Some row
      → AddsAt call.after (λ k. Contains row k) old new
      → Gains dots (IsAfterCall dots call rows) old new
  after_call row is adds =
      let same = get_index rows call.from row is in
      gains_as dots (λ a. (slice_get dots call.after ≡ Some (dot a.node a.step)) × Contains row a.origin)
      (IsAfterCall dots call rows) old new
      (λ a h. (h.0, subst (λ v. Contains v a.origin) (sym same) h.1))
      (λ a h. (h.0, subst (λ v. Contains v a.origin) same h.1))
      (gains_at dots call.after (λ k. Contains row k) old new adds)

  pub no_call : slice_get rows call.from ≡ None → Gains dots (IsAfterCall dots call rows) old old
  no_call is = gains_none dots (IsAfterCall dots call rows) old
      (λ a h. absurd (none_contains a.origin (subst (λ v. Contains v a.origin) (get_no_index rows call.from is) h.1)))

module _ (flat : code_flat.Tables) (dots : List DottedRule) where
  abbrev Begun : ℕ → List ℕ → Item → Type 0
  Begun target row a = (a.node ≡ target) × (a.step < begin_count flat target) × Contains row a.origin

  pub starts_all : (target : ℕ) (starts row : List ℕ) (old new : Rows) → AreStarts flat dots target starts
      → Gains dots (StartsIn dots starts row) old new → Gains dots (Begun target row) old new
  starts_all target starts row old new are gains = gains_as dots (StartsIn dots starts row) (Begun target row) old new
      (λ a h. let s = are.only h.position h.stands in
      let same : dot target s.0 ≡ dot a.node a.step = one_dot s.2 h.is in
      let n : target ≡ a.node = ap (λ v. v.node) same in
      let k : s.0 ≡ a.step = ap (λ v. v.step) same in
      let lt = s.1 in
      (sym n, subst (λ v. v < begin_count flat target) k lt, h.has))
      (λ a h. let s = are.all a.step h.1 in record {
        position = s.0;
        stands = s.1;
        is = s.2 ∙ ap (λ v. Some (dot v a.step)) (sym h.0);
        has = h.2;
      })
      gains

  pub no_starts : (target : ℕ) (row : List ℕ) (old : Rows) → length flat.nodes.items ≤ target
      → Gains dots (Begun target row) old old
  no_starts target row old le = gains_none dots (Begun target row) old
      (λ a h. let none : begin_count flat target ≡ 0 = ap (λ v. count_in v) (past_get flat.nodes.items target le) in
      let lt = h.1 in absurd (omega (arith, none, lt)))

  module _ (position : ℕ) (row : List ℕ) (at : DottedRule) (at_is : slice_get dots position ≡ Some at)
      (old new : Rows) where
    by_position : (by : Item) → slice_get dots position ≡ Some (dot by.node by.step) → at ≡ dot by.node by.step
    by_position by is = one_dot at_is is

    by_call : (by : Item) → slice_get dots position ≡ Some (dot by.node by.step) → call_at flat at ≡ call_of flat by
    by_call by is = ap (λ v. call_at flat v) (by_position by is)

    pub nothing_predicted : (j : ℕ) → call_at flat at ≡ None
        → Gains dots (IsFor dots position row (IsPredicted flat j)) old old
    nothing_predicted j none = gains_none dots (IsFor dots position row (IsPredicted flat j)) old
        (λ a h. absurd (cc (none, by_call h.by h.is, h.work.call)))

    pub nothing_advanced : call_at flat at ≡ None
        → Gains dots (IsFor dots position row (AdvancesNullable flat)) old old
    nothing_advanced none = gains_none dots (IsFor dots position row (AdvancesNullable flat)) old
        (λ a h. absurd (cc (none, by_call h.by h.is, h.work.call)))

    module _ (c : Called) (calls : IsCallAt flat dots at c) where
      pub call_predicts : (j k : ℕ) (here : List ℕ) → Contains row k → ((n : ℕ) → Contains here n ↔ (n ≡ j))
          → Gains dots (Begun c.target here) old new → Gains dots (IsFor dots position row (IsPredicted flat j)) old new
      call_predicts j k here some one gains =
          gains_as dots (Begun c.target here) (IsFor dots position row (IsPredicted flat j)) old new
          (λ a h. record {
            by = item_at k at;
            is = at_is;
            has = some;
            work = record {
              target = c.target;
              next = calls.next;
              call = calls.call;
              begun = (
                h.0,
                h.1,
                (one a.origin).0
                    h.2,
              );
            };
          })
          (λ a h. let target = pair_target (sym calls.call ∙ (by_call h.by h.is ∙ h.work.call)) in
          let b = h.work.begun in
          (b.0 ∙ sym target, subst (λ v. a.step < begin_count flat v) (sym target) b.1, (one a.origin).1 b.2))
          gains

      pub free_advances : c.free ≡ true → AddsAt c.after (λ k. Contains row k) old new
          → Gains dots (IsFor dots position row (AdvancesNullable flat)) old new
      free_advances is_free adds =
          gains_as dots (λ a. (slice_get dots c.after ≡ Some (dot a.node a.step)) × Contains row a.origin)
          (IsFor dots position row (AdvancesNullable flat)) old new
          (λ a h. let same : dot at.node calls.next ≡ dot a.node a.step = one_dot calls.after h.0 in
          let n : at.node ≡ a.node = ap (λ v. v.node) same in
          let k : calls.next ≡ a.step = ap (λ v. v.step) same in
          record {
            by = item_at a.origin at;
            is = at_is;
            has = h.1;
            work = record {
              target = c.target;
              call = calls.call ∙ ap (λ v. Some (c.target, v)) k;
              null = (calls.only_free is_free).0;
              free = (calls.only_free is_free).1;
              node = sym n;
              origin = refl;
            };
          })
          (λ a h. let next = pair_next (sym calls.call ∙ (by_call h.by h.is ∙ h.work.call)) in
          let n = node_same at h.by.node h.by.step (by_position h.by h.is) in (
            calls.after ∙ (ap (λ v. Some (dot at.node v)) next
                ∙ ap (λ v. Some (dot v a.step)) (n ∙ sym h.work.node)),
            subst (λ v. Contains row v) (sym h.work.origin) h.has,
          ))
          (gains_at dots c.after (λ k. Contains row k) old new adds)

      pub not_free : (c.free ≡ true → ⊥) → Gains dots (IsFor dots position row (AdvancesNullable flat)) old old
      not_free is_not = gains_none dots (IsFor dots position row (AdvancesNullable flat)) old
          (λ a h. absurd (is_not (calls.free
          (ap (λ v. null_of flat v) (pair_target (sym calls.call ∙ (by_call h.by h.is ∙ h.work.call))) ∙ h.work.null)
          (ap (λ v. takes_of flat (item_at 0 v)) (by_position h.by h.is) ∙ h.work.free))))

  module _ (steps : List DottedActions) (are : AreSteps flat dots steps) (target : ℕ) (rows : List (List ℕ)) where
    record Reported (p : ℕ) (step : DottedActions) : Type 0 where
      at : DottedRule
      is : slice_get dots p ≡ Some at
      reports : IsStep flat dots at step

    reported_at : (p : ℕ) (step : DottedActions) → slice_get steps p ≡ Some step → Reported p step
    reported_at p step is =
        let lt = get_below steps p is in
        let size = are.count in
        let there = get_there dots p (omega (arith, lt, size)) in
        record { at = there.0; is = there.1; reports = are.each p there.0 step there.1 is }

    step_at : (p : ℕ) (at : DottedRule) → slice_get dots p ≡ Some at
        → (step : DottedActions) × (slice_get steps p ≡ Some step) × IsStep flat dots at step
    step_at p at is =
        let lt = get_below dots p is in
        let size = are.count in
        let there = get_there steps p (omega (arith, lt, size)) in
        (there.0, there.1, are.each p at there.0 is there.1)

    called_in : (at : DottedRule) (o : Option Called) (c : Called) → o ≡ Some c → IsCalledAt flat dots at o
        → IsCallAt flat dots at c
    called_in at None c is h = absurd (cc is)
    called_in at (Some d) c is h = subst (λ v. IsCallAt flat dots at v) (some_same is) h

    record Calling (at : DottedRule) (o : Option Called) (next : ℕ) : Type 0 where
      called : Called
      is : o ≡ Some called
      target_is : called.target ≡ target
      after : slice_get dots called.after ≡ Some (dot at.node next)
      within : called.target < length flat.nodes.items

    calling_at : (at : DottedRule) (o : Option Called) (next : ℕ) → IsCalledAt flat dots at o
        → call_at flat at ≡ Some (target, next) → Calling at o next
    calling_at at None next h call = absurd (cc (h, call))
    calling_at at (Some c) next h call = record {
      called = c;
      is = refl;
      target_is = pair_target (sym h.call ∙ call);
      after = h.after ∙ ap (λ v. Some (dot at.node v)) (pair_next (sym h.call ∙ call));
      within = h.within;
    }

    pub none_advanced : (a : Item) → length flat.nodes.items ≤ target → IsAdvanced flat target (row_items dots rows) a
        → ⊥
    none_advanced a le h =
        let f = in_row_item dots rows h.from h.stands in
        let at : DottedRule = dot h.from.node h.from.step in
        let s = step_at f.position at f.is in
        let c = calling_at at s.0.called a.step s.2.called h.call in
        let lt = c.within in let same = c.target_is in absurd (omega (arith, lt, same, le))

    module _ (calls : List Call) (ones : AreCallsTo steps target calls) (a : Item) where
      pub called_advanced : (call : Call) → In call calls → IsAfterCall dots call rows a
          → IsAdvanced flat target (row_items dots rows) a
      called_advanced call stands after =
          let one = ones.only call stands in
          let t = reported_at call.from one.step one.is in
          let c = called_in t.at one.step.called one.called one.called_is t.reports.called in
          let same : dot t.at.node c.next ≡ dot a.node a.step =
          one_dot (subst (λ v. slice_get dots v ≡ Some (dot t.at.node c.next)) one.after c.after) after.0 in
          let n : t.at.node ≡ a.node = ap (λ v. v.node) same in
          let k : c.next ≡ a.step = ap (λ v. v.step) same in
          record {
            from = item_at a.origin t.at;
            stands = row_item_in dots rows (item_at a.origin t.at)
                (record { position = call.from; is = t.is; has = after.1 });
            call = c.call ∙ (ap (λ v. Some (v, c.next)) one.target_is ∙ ap (λ v. Some (target, v)) k);
            node = sym n;
            origin = refl;
          }

      pub advanced_called : IsAdvanced flat target (row_items dots rows) a
          → (call : Call) × In call calls × IsAfterCall dots call rows a
      advanced_called h =
          let f = in_row_item dots rows h.from h.stands in
          let at : DottedRule = dot h.from.node h.from.step in
          let s = step_at f.position at f.is in
          let c = calling_at at s.0.called a.step s.2.called h.call in
          let one = ones.all f.position s.0 c.called s.1 c.is c.target_is in (
            one.0,
            one.1,
            (
              subst (λ v. slice_get dots v ≡ Some (dot a.node a.step)) (sym one.3)
                  (c.after ∙ ap (λ v. Some (dot v a.step)) (sym h.node)),
              subst (λ v. HasAt rows v a.origin) (sym one.2)
                  (subst (λ v. HasAt rows f.position v) (sym h.origin) f.has),
            ),
          )

  -- what is done at a dotted rule completes its node
  module _ (sets : List (List Item)) (target : ℕ) (row : List ℕ) (old : Rows) where
    module _ (position : ℕ) (at : DottedRule) (at_is : slice_get dots position ≡ Some at)
        (target_is : at.node ≡ target) where
      pub row_completed : (count : ℕ) (new : Rows) → count ≡ length sets → done_of flat (item_at 0 at) ≡ true
          → Gains dots (IsCompletedBy flat sets target row count) old new
          → Gains dots (IsFor dots position row (IsCompleted flat sets [])) old new
      row_completed count new size done gains = gains_as dots (IsCompletedBy flat sets target row count)
          (IsFor dots position row (IsCompleted flat sets [])) old new
          (λ a h. record {
            by = item_at h.origin at;
            is = at_is;
            has = h.has;
            work = record {
              done = done;
              advanced = subst (λ v. IsAdvanced flat v (waiting_in sets [] h.origin) a) (sym target_is) h.advanced;
            };
          })
          (λ a h. let same = one_dot at_is h.is in
          let n : at.node ≡ h.by.node = ap (λ v. v.node) same in
          record {
            origin = h.by.origin;
            has = h.has;
            under = (let lt = waits_below h.by.origin (slice_get sets h.by.origin) refl h.work.advanced.stands in
                omega (arith, lt, size));
            advanced = subst (λ v. IsAdvanced flat v (waiting_in sets [] h.by.origin) a) (sym n ∙ target_is)
                h.work.advanced;
          })
          gains
        where
          waits_below : (o : ℕ) (found : Option (List Item)) {b : Item} → slice_get sets o ≡ found
              → In b (waiting_or [] found) → o < length sets
          waits_below o None is h = elim h [ ]
          waits_below o (Some set) is h = get_below sets o is

      pub not_completed : (done_of flat (item_at 0 at) ≡ true → ⊥)
          → Gains dots (IsFor dots position row (IsCompleted flat sets [])) old old
      not_completed not_done = gains_none dots (IsFor dots position row (IsCompleted flat sets [])) old
          (λ a h. absurd (not_done (ap (λ v. done_of flat (item_at 0 v)) (one_dot at_is h.is) ∙ h.work.done)))

  pub work_all : (position : ℕ) (row : List ℕ) (sets : List (List Item)) (count : ℕ) (a b c d : Rows)
      → count ≡ length sets → Gains dots (IsFor dots position row (IsPredicted flat count)) a b
      → Gains dots (IsFor dots position row (AdvancesNullable flat)) b c
      → Gains dots (IsFor dots position row (IsCompleted flat sets [])) c d
      → Gains dots (IsFor dots position row (IsWork flat sets)) a d
  work_all position row sets count a b c d size p q r =
      gains_both dots (IsFor dots position row (λ by i. IsPredicted flat count by i ⊎ AdvancesNullable flat by i))
      (IsFor dots position row (IsCompleted flat sets [])) (IsFor dots position row (IsWork flat sets)) a c d
      (gains_both dots (IsFor dots position row (IsPredicted flat count))
      (IsFor dots position row (AdvancesNullable flat))
      (IsFor dots position row (λ by i. IsPredicted flat count by i ⊎ AdvancesNullable flat by i)) a b c p q
      (λ i h. ⊎_elim (λ w. inl (record { by = h.by; is = h.is; has = h.has; work = w }))
      (λ w. inr (record { by = h.by; is = h.is; has = h.has; work = w })) h.work)
      (λ i h. record { by = h.by; is = h.is; has = h.has; work = inl h.work })
      (λ i h. record { by = h.by; is = h.is; has = h.has; work = inr h.work }))
      r
      (λ i h. ⊎_elim
      (λ w. inl (record {
        by = h.by;
        is = h.is;
        has = h.has;
        work = ⊎_elim (λ v. inl (subst (λ n. IsPredicted flat n h.by i) (sym size) v)) (λ v. inr v) w;
      }))
      (λ w. inr (record { by = h.by; is = h.is; has = h.has; work = w })) h.work)
      (λ i h. record {
        by = h.by;
        is = h.is;
        has = h.has;
        work = inl (⊎_elim (λ v. inl (subst (λ n. IsPredicted flat n h.by i) size v)) (λ v. inr v) h.work);
      })
      (λ i h. record { by = h.by; is = h.is; has = h.has; work = inr h.work })

-- what the rows of the dotted rules below one become by a letter
pub record IsScannedBelow (flat : code_flat.Tables) (dots : List DottedRule) (c : ℕ) (rows : List (List ℕ)) (below : ℕ)
    (a : Item) : Type 0 where
  pub position : ℕ
  pub under : position < below
  pub scanned : IsFor dots position (slice_index_or rows position []) (IsScannedFor flat c) a

module _ (flat : code_flat.Tables) (dots : List DottedRule) (c : ℕ) (rows : List (List ℕ)) where
  pub scanned_none : (old : Rows) → Gains dots (IsScannedBelow flat dots c rows 0) old old
  scanned_none old = gains_none dots (IsScannedBelow flat dots c rows 0) old
      (λ a h. let lt = h.under in absurd (omega (arith, lt)))

  pub scanned_next : (position : ℕ) (old mid new : Rows) → Gains dots (IsScannedBelow flat dots c rows position) old mid
      → Gains dots (IsFor dots position (slice_index_or rows position []) (IsScannedFor flat c)) mid new
      → Gains dots (IsScannedBelow flat dots c rows (position + 1)) old new
  scanned_next position old mid new was gains = gains_both dots (IsScannedBelow flat dots c rows position)
      (IsFor dots position (slice_index_or rows position []) (IsScannedFor flat c))
      (IsScannedBelow flat dots c rows (position + 1)) old mid new was gains
      (λ a h. ⊎_elim (λ lt. inl (record { position = h.position; under = lt; scanned = h.scanned }))
      (λ past. let lt = h.under in let same : h.position ≡ position = omega (arith, lt, past) in
      inr (subst (λ v. IsFor dots v (slice_index_or rows v []) (IsScannedFor flat c) a) same h.scanned))
      (cases_lt h.position position))
      (λ a h. let lt = h.under in record { position = h.position; under = omega (arith, lt); scanned = h.scanned })
      (λ a h. record { position = position; under = omega arith; scanned = h })

  pub scanned_all : (count : ℕ) (old new : Rows) → length dots ≤ count
      → Gains dots (IsScannedBelow flat dots c rows count) old new
      → Gains dots (IsScannedItem flat c (row_items dots rows)) old new
  scanned_all count old new le gains = gains_as dots (IsScannedBelow flat dots c rows count)
      (IsScannedItem flat c (row_items dots rows)) old new
      (λ a h. let s = h.scanned in record {
        by = s.by;
        stands = row_item_in dots rows s.by (record { position = h.position; is = s.is; has = s.has });
        reads = s.work.reads;
        node = s.work.node;
        step = s.work.step;
        origin = s.work.origin;
      })
      (λ a h. let f = in_row_item dots rows h.by h.stands in
      let lt = get_below dots f.position f.is in
      record {
        position = f.position;
        under = omega (arith, lt, le);
        scanned = record {
          by = h.by;
          is = f.is;
          has = f.has;
          work = record { reads = h.reads; node = h.node; step = h.step; origin = h.origin };
        };
      })
      gains

  module _ (position : ℕ) (at : DottedRule) (at_is : slice_get dots position ≡ Some at) (old new : Rows) where
    pub scan_by : (after : ℕ) → slice_get dots after ≡ Some (dot at.node (at.step + 1))
        → IfSomeSet (read_of flat (item_at 0 at)) c
        → Gains dots (IsAfterCall dots (record { from = position; after = after }) rows) old new
        → Gains dots (IsFor dots position (slice_index_or rows position []) (IsScannedFor flat c)) old new
    scan_by after after_is reads gains =
        gains_as dots (IsAfterCall dots (record { from = position; after = after }) rows)
        (IsFor dots position (slice_index_or rows position []) (IsScannedFor flat c)) old new
        (λ a h. let same = one_dot after_is h.0 in
        let n : at.node ≡ a.node = ap (λ v. v.node) same in
        let k : at.step + 1 ≡ a.step = ap (λ v. v.step) same in
        record {
          by = item_at a.origin at;
          is = at_is;
          has = h.1;
          work = record { reads = reads; node = sym n; step = sym k; origin = refl };
        })
        (λ a h. let same = one_dot at_is h.is in
        let n : at.node ≡ h.by.node = ap (λ v. v.node) same in
        let k : at.step ≡ h.by.step = ap (λ v. v.step) same in (
          after_is ∙ (ap (λ v. Some (dot v (at.step + 1))) (n ∙ sym h.work.node)
              ∙ ap (λ v. Some (dot a.node v)) (ap (λ v. v + 1) k ∙ sym h.work.step)),
          subst (λ v. Contains (slice_index_or rows position []) v) (sym h.work.origin) h.has,
        ))
        gains

    pub scan_nothing : (IfSomeSet (read_of flat (item_at 0 at)) c → ⊥)
        → Gains dots (IsFor dots position (slice_index_or rows position []) (IsScannedFor flat c)) old old
    scan_nothing none = gains_none dots
        (IsFor dots position (slice_index_or rows position []) (IsScannedFor flat c)) old
        (λ a h. absurd (none (subst (λ v. IfSomeSet (read_of flat (item_at 0 v)) c) (sym (one_dot at_is h.is))
        h.work.reads)))

-- what a look-up found
pub found_at : {A : Type 0} (xs : List A) (i : ℕ) (v : A) → true ≡ ltb i (length xs) → v ≡ slice_index_or xs i v
    → slice_get xs i ≡ Some v
found_at xs i v low is = slice_get-get_or xs i v (ltb-true i (length xs) (sym low)) ∙ ap Some (sym is)

pub missing_at : {A : Type 0} (xs : List A) (i : ℕ) → false ≡ ltb i (length xs) → slice_get xs i ≡ None
missing_at xs i high = past_get xs i (grind (arith, high))

pub missing_past : {A : Type 0} (xs : List A) (i : ℕ) → false ≡ ltb i (length xs) → length xs ≤ i
missing_past xs i high = grind (arith, high)

pub start_below : (flat : code_flat.Tables) (dots : List DottedRule) (target : ℕ) (starts items : List ℕ) (i d : ℕ)
    → AreStarts flat dots target starts → items ≡ starts → i < length items → slice_index_or items i d < length dots
start_below flat dots target starts items i d are same lt =
    let s = are.only (slice_index_or items i d) (subst (λ v. In (slice_index_or items i d) v) same
    (at_index_in items i d lt)) in
    get_below dots (slice_index_or items i d) s.2

-- a dotted rule that is called after has a number
pub call_below : (flat : code_flat.Tables) (dots : List DottedRule) (steps : List DottedActions) (target : ℕ)
    (calls items : List Call)
    (i : ℕ) (d : Call) → AreSteps flat dots steps → AreCallsTo steps target calls → items ≡ calls → i < length items
    → (slice_index_or items i d).after < length dots
call_below flat dots steps target calls items i d are ones same lt =
    let one = ones.only (slice_index_or items i d) (subst (λ v. In (slice_index_or items i d) v) same
    (at_index_in items i d lt)) in
    let t = reported_at flat dots steps are target [] (slice_index_or items i d).from one.step one.is in
    let c = called_in flat dots steps are target [] t.at one.step.called one.called one.called_is t.reports.called in
    get_below dots (slice_index_or items i d).after (subst (λ v. slice_get dots v ≡ Some (dot t.at.node c.next))
    one.after c.after)

-- what a dotted rule does
pub record StepHere (flat : code_flat.Tables) (dots : List DottedRule) (position : ℕ)
    (step : DottedActions) : Type 0 where
  pub at : DottedRule
  pub is : slice_get dots position ≡ Some at
  pub reports : IsStep flat dots at step

pub step_here : (flat : code_flat.Tables) (dots : List DottedRule) (steps : List DottedActions)
    → AreSteps flat dots steps
    → (position : ℕ) (step : DottedActions) → position < length dots → step ≡ slice_index_or steps position step
    → StepHere flat dots position step
step_here flat dots steps are position step lt is =
    let there = get_there dots position lt in
    let count = are.count in
    let low : position < length steps = omega (arith, lt, count) in
    record {
      at = there.0;
      is = there.1;
      reports = are.each position there.0 step there.1 (slice_get-get_or steps position step low ∙ ap Some (sym is));
    }

pub call_here : (flat : code_flat.Tables) (dots : List DottedRule) (at : DottedRule) (step : DottedActions)
    (c : Called)
    → IsStep flat dots at step → step.called ≡ Some c → IsCallAt flat dots at c
call_here flat dots at step c reports is = subst (λ o. IsCalledAt flat dots at o) is reports.called

pub no_call_here : (flat : code_flat.Tables) (dots : List DottedRule) (at : DottedRule) (step : DottedActions)
    → IsStep flat dots at step → step.called ≡ None → call_at flat at ≡ None
no_call_here flat dots at step reports is = subst (λ o. IsCalledAt flat dots at o) is reports.called

-- the set of an origin
pub view_at : (dots : List DottedRule) (sets : List KeptRows) (origin : ℕ) (kept : KeptRows) → origin < length sets
    → kept ≡ slice_index_or sets origin kept
    → slice_get (row_views dots sets) origin ≡ Some (row_items dots kept.rows.items)
view_at dots sets origin kept lt is = get_map (λ s. row_items dots s.rows.items) sets origin
    (slice_get-get_or sets origin kept lt ∙ ap Some (sym is))

-- the augmented start is predicted
pub whole_starts : (flat : code_flat.Tables) (dots : List DottedRule) (target : ℕ) (zero_row : List ℕ) (old new : Rows)
    → start_target flat ≡ Some target → ((k : ℕ) → Contains zero_row k ↔ (k ≡ 0))
    → Gains dots (λ a. (a.node ≡ target) × (a.step < begin_count flat target) × Contains zero_row a.origin) old new
    → Gains dots (IsWhole flat) old new
whole_starts flat dots target zero_row old new is one gains = gains_as dots
    (λ a. (a.node ≡ target) × (a.step < begin_count flat target) × Contains zero_row a.origin) (IsWhole flat) old new
    (λ a h. record { target = target; is = is; begun = (h.0, h.1, (one a.origin).0 h.2) })
    (λ a h. let same : h.target ≡ target = some_same (sym h.is ∙ is) in let b = h.begun in
    (b.0 ∙ same, subst (λ v. a.step < begin_count flat v) same b.1, (one a.origin).1 b.2))
    gains

pub no_whole : (flat : code_flat.Tables) (dots : List DottedRule) (old : Rows) → start_target flat ≡ None
    → Gains dots (IsWhole flat) old old
no_whole flat dots old none = gains_none dots (IsWhole flat) old (λ a h. absurd (cc (none, h.is)))

-- what the first set, and any later one, begins with
pub begins_first : (flat : code_flat.Tables) (dots : List DottedRule) (x : List ℕ) (sets : List (List Item))
    (old new : Rows)
    → length sets ≡ 0 → Gains dots (IsWhole flat) old new → Gains dots (IsFirst flat x sets) old new
begins_first flat dots x sets old new none gains = gains_as dots (IsWhole flat) (IsFirst flat x sets) old new
    (λ a h. inl (none, h))
    (λ a h. ⊎_elim (λ w. w.1) (λ r. let size = r.size in absurd (omega (arith, size, none))) h)
    gains

pub begins_after : (flat : code_flat.Tables) (dots : List DottedRule) (x : List ℕ) (sets : List (List Item))
    (old new : Rows)
    (k c : ℕ) (last : List Item) → length sets ≡ k + 1 → slice_get sets k ≡ Some last → slice_get x k ≡ Some c
    → Gains dots (IsScannedItem flat c last) old new → Gains dots (IsFirst flat x sets) old new
begins_after flat dots x sets old new k c last size set letter gains =
    gains_as dots (IsScannedItem flat c last) (IsFirst flat x sets) old new
    (λ a r. inr (record { at = k; letter = c; last = last; size = size; set = set; letter_is = letter; read = r }))
    (λ a h. ⊎_elim (λ w. let n = w.0 in absurd (omega (arith, n, size))) (λ r. back a r) h) gains
  where
    back : (a : Item) → IsAfter flat x sets a → IsScannedItem flat c last a
    back a h =
        let more = h.size in
        let same : h.at ≡ k = omega (arith, more, size) in
        let one : h.last ≡ last = some_same (sym h.set ∙ (ap (λ v. slice_get sets v) same ∙ set)) in
        let two : h.letter ≡ c = some_same (sym h.letter_is ∙ (ap (λ v. slice_get x v) same ∙ letter)) in
        subst (λ v. IsScannedItem flat v last a) two (subst (λ v. IsScannedItem flat h.letter v a) one h.read)

-- the dotted rule by its number
pub position_yes : (dots : List DottedRule) (position : ℕ) (d : DottedRule) (n k : ℕ) → position < length dots
    → ((slice_index_or dots position d).node ≡ n) × ((slice_index_or dots position d).step ≡ k)
    → slice_get dots position ≡ Some (dot n k)
position_yes dots position d n k lt is = get_or_index dots position d lt
    ∙ (ap (λ v. Some (dot v (slice_index_or dots position d).step)) is.0 ∙ ap (λ v. Some (dot n v)) is.1)

pub position_of : (dots : List DottedRule) (position : ℕ) (d : DottedRule) (n k : ℕ) → position < length dots
    → slice_get dots position ≡ Some (dot n k)
    → ((slice_index_or dots position d).node ≡ n) × ((slice_index_or dots position d).step ≡ k)
position_of dots position d n k lt is =
    let same = one_dot (get_or_index dots position d lt) is in (ap (λ v. v.node) same, ap (λ v. v.step) same)
