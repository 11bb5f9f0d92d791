-- Waiting lists of predictions.
-- Serves: judge.
use Rattle.std.proofs.Common.{⊎_elim}
use Rattle.std.proofs.Common.{◌≡◌, ℕ, zero, suc, ◌+◌, ◌-◌, ◌<◌, ◌≤◌, ◌⊎◌, inl, inr, Some, None, map, List, [], ◌∷◌}
use Rattle.std.proofs.Common.{◌++◌, length, take, set, slice_get, slice_index_or, refl, sym, ◌∙◌, ap, subst, arith}
use Rattle.std.proofs.Common.{append_assoc}
use Rattle.std.proofs.lemmas.Option.{slice_get_within}
use Rattle.std.proofs.lemmas.List.{append-nil}
use Rattle.flatgrammar.specs.Positions.{In, now, on}
use Rattle.flatgrammar.specs.declared.flat_item.Item.{Item}
use Rattle.flatgrammar.specs.declared.tables.Tables as code_flat
use Rattle.flatgrammar.specs.TableViews.{call_of}
use Rattle.flatgrammar.proofs.CallOfLemmas.{some_same, equal_or}
use Rattle.flatgrammar.proofs.InLemmas.{in_left, at_end, before_end}
use Rattle.earleyitems.specs.declared.waiters.Waiter.{Waiter}
use Rattle.earleyitems.specs.ItemSets.{Adds, IsAdvanced}
use Rattle.earleyitems.specs.EarleySets.{EarleySet, GoesOn}
use Rattle.earleyitems.specs.SetViews.{view}
use Rattle.earleyitems.specs.Waiting.{IsSkippedTo, Chain, ended, linked, IsListed, call_site_at, AreWaiting}
use Rattle.earleyitems.specs.Waiting.{AreWaitingAll}
use Rattle.flatgrammar.specs.ItemClosures.{item_at, closure_of, inlined_of, lists_of, dots_of, AreDotLists}
use Rattle.flatgrammar.specs.declared.dot_list.Ask.{Ask}
use Rattle.earleyitems.proofs.ClosureLemmas.{in_right, in_either, in_map, from_map}
use Rattle.earleyitems.proofs.AddsLemmas.{adds_none, adds_both, adds_as}
use Rattle.earleyitems.proofs.ExpandLemmas.{take_one}
use Rattle.flatgrammar.proofs.SliceGetLemmas.{push_cases}
use Rattle.earleyitems.proofs.ItemLemmas.{item_same}
use Rattle.earleyitems.proofs.AreBucketsLemmas.{keeps_get, end_get, or_get}

pub chain_within : {waiters : List Waiter} {f : ℕ} {es : List Item} → Chain waiters f es → f ≤ length waiters
chain_within ended = omega arith
chain_within {waiters = waiters} (linked {k = k} {w = w} is le rest) = let lt = slice_get_within waiters k w is in
    omega (arith, lt)

pub chain_more : {waiters : List Waiter} {f : ℕ} {es : List Item} (more : List Waiter) → Chain waiters f es
    → Chain (waiters ++ more) f es
chain_more more ended = ended
chain_more {waiters = waiters} more (linked {k = k} {w = w} is le rest) =
    linked (keeps_get waiters more k w is) le (chain_more more rest)

pub record Next (waiters : List Waiter) (at : ℕ) (es : List Item) (d : Waiter) : Type 0 where
  pub rest : List Item
  pub is : es ≡ (slice_index_or waiters (at - 1) d).item ∷ rest
  pub chain : Chain waiters (slice_index_or waiters (at - 1) d).next rest
  pub less : (slice_index_or waiters (at - 1) d).next < at

pub chain_next : {waiters : List Waiter} {at : ℕ} {es : List Item} (d : Waiter) → Chain waiters at es → 0 < at
    → Next waiters at es d
chain_next d ended pos = absurd (omega (arith, pos))
chain_next {waiters = waiters} d (linked {k = k} {w = w} {items = items} is le rest) pos =
    let down : suc k - 1 ≡ k = omega arith in
    let same : slice_index_or waiters (suc k - 1) d ≡ w =
    or_get waiters (suc k - 1) d w (ap (λ n. slice_get waiters n) down ∙ is) in
    record {
      rest = items;
      is = ap (λ v. v.item ∷ items) (sym same);
      chain = subst (λ v. Chain waiters v.next items) (sym same) rest;
      less = (let n : (slice_index_or waiters (suc k - 1) d).next ≡ w.next = ap (λ v. v.next) same in
          omega (arith, n, le));
    }

chain_none : {waiters : List Waiter} {at : ℕ} {es : List Item} → Chain waiters at es → at ≤ 0 → es ≡ []
chain_none ended le = refl
chain_none (linked is le rest) most = absurd (omega (arith, most))

-- a walk along a list: what adds the rest adds the augmented start
pub record IsAlong (waiters : List Waiter) (at : ℕ) (es : List Item) (old new : List Item) : Type 0 where
  pub rest : List Item
  pub chain : Chain waiters at rest
  pub whole : (last : List Item) → Adds (λ a. In a rest) new last → Adds (λ a. In a es) old last

pub along_start : (waiters : List Waiter) (first : ℕ) (es old : List Item) → Chain waiters first es
    → IsAlong waiters first es old old
along_start waiters first es old c = record { rest = es; chain = c; whole = λ last adds. adds }

pub along_next : (waiters : List Waiter) (at : ℕ) (es old new more : List Item) (d : Waiter)
    → IsAlong waiters at es old new
    → 0 < at →
    Adds (λ a. a ≡ (slice_index_or waiters (at - 1) d).item) new more
    → IsAlong waiters (slice_index_or waiters (at - 1) d).next es old more
along_next waiters at es old new more d along pos adds =
    let n = chain_next d along.chain pos in
    record {
      rest = n.rest;
      chain = n.chain;
      whole = λ last rest. along.whole last (adds_both (λ a. a ≡ (slice_index_or waiters (at - 1) d).item)
          (λ a. In a n.rest) (λ a. In a along.rest) new more last adds rest
          (λ a h. by a n.rest (subst (λ v. In a v) n.is h)) (λ a same. subst (λ v. In a v) (sym n.is) (now same))
          (λ a h. subst (λ v. In a v) (sym n.is) (on h)));
    }
  where
    by : (a : Item) (rest : List Item) → In a ((slice_index_or waiters (at - 1) d).item ∷ rest)
        → (a ≡ (slice_index_or waiters (at - 1) d).item) ⊎ In a rest
    by a rest (now same) = inl same
    by a rest (on h) = inr h

pub along_end : (waiters : List Waiter) (at : ℕ) (es old new : List Item) → IsAlong waiters at es old new → at ≤ 0
    → Adds (λ a. In a es) old new
along_end waiters at es old new along le = along.whole new
    (adds_none (λ a. In a along.rest) new (λ a h. elim (subst (λ v. In a v) (chain_none along.chain le) h) [ ]))

pub skipped_start : (waiters : List Waiter) (first : ℕ) (es set : List Item) → Chain waiters first es
    → IsSkippedTo waiters first es set
skipped_start waiters first es set c = record { rest = es; chain = c; seen = λ a h. inr h; left = λ a h. h }

pub skipped_next : (waiters : List Waiter) (at : ℕ) (es now_there : List Item) (d : Waiter)
    → IsSkippedTo waiters at es now_there → 0 < at → In (slice_index_or waiters (at - 1) d).item now_there
    → IsSkippedTo waiters (slice_index_or waiters (at - 1) d).next es now_there
skipped_next waiters at es now_there d p pos there =
    let n = chain_next d p.chain pos in
    record {
      rest = n.rest;
      chain = n.chain;
      seen = λ a h. by a n.rest (⊎_elim (λ s. inl s) (λ r. inr (subst (λ v. In a v) n.is r)) (p.seen a h));
      left = λ a h. p.left a (subst (λ v. In a v) (sym n.is) (on h));
    }
  where
    by : (a : Item) (rest : List Item) → In a now_there ⊎ In a ((slice_index_or waiters (at - 1) d).item ∷ rest)
        → In a now_there ⊎ In a rest
    by a rest (inl s) = inl s
    by a rest (inr (now same)) = inl (subst (λ v. In v now_there) (sym same) there)
    by a rest (inr (on h)) = inr h

-- what was passed over stands in the set
pub along_skipped : (waiters : List Waiter) (at next : ℕ) (es old new : List Item)
    → (along : IsAlong waiters at es old new)
    → IsSkippedTo waiters next along.rest new → IsAlong waiters next es old new
along_skipped waiters at next es old new along p = record {
  rest = p.rest;
  chain = p.chain;
  whole = λ last adds. along.whole last (record {
    added = adds.added;
    is = adds.is;
    all = λ a h. ⊎_elim (λ s. subst (λ v. In a v) (sym adds.is) (in_left adds.added s)) (λ r. adds.all a r)
        (p.seen a h);
    only = λ a h. ⊎_elim (λ s. inl s) (λ r. inr (p.left a r)) (adds.only a h);
    different = adds.different;
  });
}

set_at : (xs : List ℕ) (i v d : ℕ) → i < length xs → slice_index_or (set xs i v) i d ≡ v
set_at [] i v d lt = absurd (omega (arith, lt))
set_at (x ∷ xs) zero v d lt = refl
set_at (x ∷ xs) (suc i) v d lt = set_at xs i v d (let less : i < length xs = omega (arith, lt) in less)

set_beside : (xs : List ℕ) (i j v d : ℕ) → (j ≡ i → ⊥) → slice_index_or (set xs i v) j d ≡ slice_index_or xs j d
set_beside [] i j v d other = refl
set_beside (x ∷ xs) zero zero v d other = absurd (other refl)
set_beside (x ∷ xs) zero (suc j) v d other = refl
set_beside (x ∷ xs) (suc i) zero v d other = refl
set_beside (x ∷ xs) (suc i) (suc j) v d other = set_beside xs i j v d (λ same. other (ap suc same))

pub take_one_more : {A : Type 0} (xs ys : List A) (k : ℕ) (d : A) → xs ≡ ys → k < length xs
    → take (k + 1) ys ≡ take k ys
    ++ slice_index_or xs k d ∷ []
take_one_more xs ys k d same lt =
    subst (λ v. take (k + 1) v ≡ take k v ++ slice_index_or xs k d ∷ []) same (take_one xs k d lt)

-- the walk along a prediction's list adds what its completion adds
pub listed_adds : {waiters : List Waiter} {first : ℕ} {Q : Item → Type 0} {old new : List Item} (l : IsListed waiters
    first Q)
    → Adds (λ a. In a l.items) old new → Adds Q old new
listed_adds {Q = Q} {old = old} {new = new} l adds = adds_as (λ a. In a l.items) Q old new (λ a h. l.only a h)
    (λ a h. l.all a h) adds

-- such a list among more
pub listed_chain : {waiters all : List Waiter} {first from : ℕ} {Q : Item → Type 0} (l : IsListed waiters first Q)
    → first ≡ from → GoesOn waiters all → Chain all from l.items
listed_chain {waiters = waiters} {all = all} {from = from} l same go = subst (λ v. Chain v from l.items) (sym go.1)
    (subst (λ n. Chain (waiters ++ go.0) n l.items) same (chain_more go.0 l.chain))

call_site_dots : (j : ℕ) (sites : List Ask) → map (call_site_at j) sites ≡ map (item_at j) (dots_of sites)
call_site_dots j [] = refl
call_site_dots j (site ∷ sites) = ap (λ v. call_site_at j site ∷ v) (call_site_dots j sites)

-- one more set
pub waiting_push : (flat : code_flat.Tables) (kept_sets : List EarleySet) (kept_set : EarleySet)
    → AreWaitingAll flat kept_sets →
    AreWaiting flat (view flat (length kept_sets) kept_set) kept_set.predictions kept_set.firsts kept_set.waiters
    → AreWaitingAll flat (kept_sets ++ kept_set ∷ [])
waiting_push flat kept_sets kept_set are last k f is = by (push_cases kept_sets kept_set k f is)
  where
    by : (slice_get kept_sets k ≡ Some f) ⊎ ((k ≡ length kept_sets) × (kept_set ≡ f))
        → AreWaiting flat (view flat k f) f.predictions f.firsts f.waiters
    by (inl old) = are k f old
    by (inr new) =
        subst (λ v. AreWaiting flat (view flat k v) v.predictions v.firsts v.waiters) new.1
        (subst (λ n. AreWaiting flat (view flat n kept_set) kept_set.predictions kept_set.firsts kept_set.waiters)
        (sym new.0) last)

module _ (flat : code_flat.Tables) (predictions : List ℕ) where
  seen_more : (t : ℕ) (seen : List Item) (item a : Item) → IsAdvanced flat t seen a
      → IsAdvanced flat t (seen ++ item ∷ []) a
  seen_more t seen item a r = record {
    from = r.from;
    stands = in_left (item ∷ []) r.stands;
    call = r.call;
    node = r.node;
    origin = r.origin;
  }

  seen_less : (t : ℕ) (seen : List Item) (item a : Item) → IsAdvanced flat t (seen ++ item ∷ []) a
      → IsAdvanced flat t seen a ⊎ ((call_of flat item ≡ Some (t, a.step)) × (a.node ≡ item.node)
      × (a.origin ≡ item.origin))
  seen_less t seen item a r = by (before_end r.from item seen r.stands)
    where
      by : In r.from seen ⊎ (r.from ≡ item) → IsAdvanced flat t seen a
          ⊎ ((call_of flat item ≡ Some (t, a.step)) × (a.node ≡ item.node) × (a.origin ≡ item.origin))
      by (inl h) = inl (record { from = r.from; stands = h; call = r.call; node = r.node; origin = r.origin })
      by (inr same) = inr (
        subst (λ v. call_of flat v ≡ Some (t, a.step)) same r.call,
        r.node ∙ ap (λ v. v.node) same,
        r.origin ∙ ap (λ v. v.origin) same,
      )

  -- an item that calls none of the predictions
  pub waiting_none : (seen : List Item) (item : Item) (firsts : List ℕ) (waiters : List Waiter)
      → ((h t l : ℕ) → slice_get predictions h ≡ Some t → call_of flat item ≡ Some (t, l) → ⊥) →
      AreWaiting flat seen predictions firsts waiters → AreWaiting flat (seen ++ item ∷ []) predictions firsts waiters
  waiting_none seen item firsts waiters never are h t is own =
      let l = are h t is own in
      record {
        items = l.items;
        chain = l.chain;
        all = λ a r. by a (seen_less t seen item a r);
        only = λ a i. seen_more t seen item a (l.only a i);
      }
    where
      by : (a : Item) → IsAdvanced flat t seen a ⊎ ((call_of flat item ≡ Some (t, a.step)) × (a.node ≡ item.node)
          × (a.origin ≡ item.origin)) → In a (are h t is own).items
      by a (inl r) = (are h t is own).all a r
      by a (inr c) = absurd (never h t a.step is c.0)

  -- an item that calls the prediction of an index
  pub waiting_more : (seen : List Item) (item : Item) (firsts : List ℕ) (waiters : List Waiter) (index target step : ℕ)
      (w : Waiter) → call_of flat item ≡ Some (target, step) →
      slice_get predictions index ≡ Some target → ((i : ℕ) → slice_get predictions i ≡ Some target → i ≡ index)
      → index < length firsts →
      w.item ≡ record { node = item.node; step = step; origin = item.origin } → w.next ≡ slice_index_or firsts index 0 →
      AreWaiting flat seen predictions firsts waiters → AreWaiting flat (seen ++ item ∷ []) predictions
      (set firsts index (length waiters + 1)) (waiters ++ w ∷ [])
  waiting_more seen item firsts waiters index target step w call at_index only within w_item w_next are h t is own =
      by (equal_or h index)
    where
      here : (h ≡ index) → (t ≡ target) → IsListed (waiters ++ w ∷ []) (length waiters + 1)
          (IsAdvanced flat t (seen ++ item ∷ []))
      here same t_is =
          let l = are h t is own in
          let next_is : w.next ≡ slice_index_or firsts h 0 = w_next ∙ ap (λ n. slice_index_or firsts n 0) (sym same) in
          let le = chain_within l.chain in
          record {
            items = w.item ∷ l.items;
            chain = subst (λ n. Chain (waiters ++ w ∷ []) n (w.item ∷ l.items))
                (let n : suc (length waiters) ≡ length waiters + 1 = omega arith in n)
                (linked (end_get waiters w) (omega (arith, next_is, le))
                (subst (λ n. Chain (waiters ++ w ∷ []) n l.items) (sym next_is) (chain_more (w ∷ []) l.chain)));
            all = λ a r. to a (seen_less t seen item a r);
            only = λ a i. from a l.items (λ b g. l.only b g) i;
          }
        where
          to : (a : Item) → IsAdvanced flat t seen a ⊎ ((call_of flat item ≡ Some (t, a.step)) × (a.node ≡ item.node)
              × (a.origin ≡ item.origin)) → In a (w.item ∷ (are h t is own).items)
          to a (inl r) = on ((are h t is own).all a r)
          to a (inr c) =
              let s : step ≡ a.step = ap (λ v. v.1) (some_same (sym call ∙ c.0)) in
              now (item_same a item.node step item.origin c.1 (sym s) c.2 ∙ sym w_item)

          from : (a : Item) (items : List Item) → ((b : Item) → In b items → IsAdvanced flat t seen b)
              → In a (w.item ∷ items) → IsAdvanced flat t (seen ++ item ∷ []) a
          from a items each (on i) = seen_more t seen item a (each a i)
          from a items each (now a_is) =
              let is_a = a_is ∙ w_item in
              record {
                from = item;
                stands = at_end item seen;
                call = call ∙ ap (λ v. Some v) (pair_same (sym t_is) (sym (ap (λ v. v.step) is_a)));
                node = ap (λ v. v.node) is_a;
                origin = ap (λ v. v.origin) is_a;
              }
            where
              pair_same : {a b c d : ℕ} → a ≡ b → c ≡ d → ◌≡◌ {A = ℕ × ℕ} (a, c) (b, d)
              pair_same p q = rw (p, q) refl

      by : (h ≡ index) ⊎ (h ≡ index → ⊥) → IsListed (waiters ++ w ∷ [])
          (slice_index_or (set firsts index (length waiters + 1)) h 0) (IsAdvanced flat t (seen ++ item ∷ []))
      by (inl same) =
          let t_is : t ≡ target = some_same (sym is ∙ (ap (λ n. slice_get predictions n) same ∙ at_index)) in
          let value : slice_index_or (set firsts index (length waiters + 1)) h 0 ≡ length waiters + 1 =
          ap (λ n. slice_index_or (set firsts index (length waiters + 1)) n 0) same
          ∙ set_at firsts index (length waiters + 1) 0 within in
          subst (λ n. IsListed (waiters ++ w ∷ []) n (IsAdvanced flat t (seen ++ item ∷ []))) (sym value) (here same
          t_is)
      by (inr other) =
          let l = are h t is own in
          subst (λ n. IsListed (waiters ++ w ∷ []) n (IsAdvanced flat t (seen ++ item ∷ [])))
          (sym (set_beside firsts index h (length waiters + 1) 0 other))
          (record {
            items = l.items;
            chain = chain_more (w ∷ []) l.chain;
            all = λ a r. to a (seen_less t seen item a r);
            only = λ a i. seen_more t seen item a (l.only a i);
          })
        where
          to : (a : Item) → IsAdvanced flat t seen a ⊎ ((call_of flat item ≡ Some (t, a.step)) × (a.node ≡ item.node)
              × (a.origin ≡ item.origin)) → In a (are h t is own).items
          to a (inl r) = (are h t is own).all a r
          to a (inr c) = let t_is : target ≡ t = ap (λ v. v.0) (some_same (sym call ∙ c.0)) in
              absurd (other (only h (is ∙ ap (λ v. Some v) (sym t_is))))

  -- nothing waits at first
  pub waiting_start : (firsts : List ℕ) (waiters : List Waiter) → ((h : ℕ) → slice_index_or firsts h 0 ≡ 0)
      → AreWaiting flat [] predictions firsts waiters
  waiting_start firsts waiters zeros h t is own = record {
    items = [];
    chain = subst (λ n. Chain waiters n []) (sym (zeros h)) ended;
    all = λ a r. elim r.stands [ ];
    only = λ a i. elim i [ ];
  }

  -- what lists more for a further part lists more for both
  pub waiting_then : (xs : List Item) {ys zs : List Item} (f0 f1 f2 : List ℕ) {w0 w1 w2 : List Waiter} → zs ≡ xs ++ ys →
      ((seen : List Item) → AreWaiting flat seen predictions f0 w0 → AreWaiting flat (seen ++ xs) predictions f1 w1) →
      ((seen : List Item) → AreWaiting flat seen predictions f1 w1 → AreWaiting flat (seen ++ ys) predictions f2 w2) →
      (seen : List Item) → AreWaiting flat seen predictions f0 w0 → AreWaiting flat (seen ++ zs) predictions f2 w2
  waiting_then xs {ys = ys} f0 f1 f2 {w2 = w2} is p q seen h =
      subst (λ v. AreWaiting flat (seen ++ v) predictions f2 w2) (sym is)
      (subst (λ v. AreWaiting flat v predictions f2 w2) (append_assoc seen xs ys) (q (seen ++ xs) (p seen h)))

  pub waiting_same : (firsts : List ℕ) (waiters : List Waiter) (seen : List Item)
      → AreWaiting flat seen predictions firsts waiters
      → AreWaiting flat (seen ++ []) predictions firsts waiters
  waiting_same firsts waiters seen h = subst (λ v. AreWaiting flat v predictions firsts waiters)
      (sym (append-nil seen)) h

  -- dotted rules that call none of the predictions may be left out
  pub waiting_fewer : (seen few all : List Item) (firsts : List ℕ) (waiters : List Waiter)
      → ((a : Item) → In a few → In a all) →
      ((a : Item) (t l : ℕ) → In a all → call_of flat a ≡ Some (t, l) → inlined_of flat t ≡ None → In a few) →
      AreWaiting flat (seen ++ few) predictions firsts waiters
      → AreWaiting flat (seen ++ all) predictions firsts waiters
  waiting_fewer seen few all firsts waiters stand called are h t is own =
      let l = are h t is own in
      record {
        items = l.items;
        chain = l.chain;
        all = λ a r. l.all a (to a r (in_either seen r.stands));
        only = λ a i. from a (l.only a i);
      }
    where
      to : (a : Item) (r : IsAdvanced flat t (seen ++ all) a) → In r.from seen ⊎ In r.from all
          → IsAdvanced flat t (seen ++ few) a
      to a r (inl i) = record { from = r.from; stands = in_left few i; call = r.call; node = r.node; origin = r.origin }
      to a r (inr i) = record {
        from = r.from;
        stands = in_right seen (called r.from t a.step i r.call own);
        call = r.call;
        node = r.node;
        origin = r.origin;
      }

      from : (a : Item) → IsAdvanced flat t (seen ++ few) a → IsAdvanced flat t (seen ++ all) a
      from a r = record {
        from = r.from;
        stands = by (in_either seen r.stands);
        call = r.call;
        node = r.node;
        origin = r.origin;
      }
        where
          by : In r.from seen ⊎ In r.from few → In r.from (seen ++ all)
          by (inl i) = in_left all i
          by (inr i) = in_right seen (stand r.from i)

  -- of a closure the dotted rules that call a target with a closure of its own are enough
  pub waiting_callers : (lists : AreDotLists flat) (prediction j : ℕ) (seen : List Item) (firsts : List ℕ)
      (waiters : List Waiter) →
      AreWaiting flat (seen ++ map (call_site_at j) (lists_of flat prediction).asks) predictions firsts waiters
      → AreWaiting flat (seen ++ map (item_at j) (closure_of flat prediction).dots) predictions firsts waiters
  waiting_callers lists prediction j seen firsts waiters are =
      waiting_fewer seen (map (item_at j) (dots_of (lists_of flat prediction).asks))
      (map (item_at j) (closure_of flat prediction).dots) firsts waiters
      (λ a i. let m = from_map j a (dots_of (lists_of flat prediction).asks) i in
      subst (λ v. In v (map (item_at j) (closure_of flat prediction).dots)) (sym m.is)
      (in_map j m.dot (closure_of flat prediction).dots ((lists prediction).0.0 m.dot m.stands)))
      (λ a t l i call own. let m = from_map j a (closure_of flat prediction).dots i in
      subst (λ v. In v (map (item_at j) (dots_of (lists_of flat prediction).asks))) (sym m.is)
      (in_map j m.dot (dots_of (lists_of flat prediction).asks)
      ((lists prediction).0.1 m.dot m.stands (t, l, subst (λ v. call_of flat v ≡ Some (t, l)) m.is call, own))))
      (subst (λ v. AreWaiting flat (seen ++ v) predictions firsts waiters)
      (call_site_dots j (lists_of flat prediction).asks) are)
