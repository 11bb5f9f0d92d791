-- Loops that add what one entry after another asks for.
-- Serves: judge.
use Rattle.std.proofs.Common.{◌≡◌, ℕ, zero, suc, ◌+◌, ◌<◌, ◌≤◌, ◌⊎◌, inl, inr, List, [], ◌∷◌, ◌++◌, true, false, Some}
use Rattle.std.proofs.Common.{None, length, map, take, slice_get, slice_index_or, refl, sym, ◌∙◌, ap, subst, arith}
use Rattle.std.proofs.Common.{append_assoc}
use Rattle.std.proofs.lemmas.List.{append-nil}
use Rattle.flatgrammar.specs.Positions.{In, now, on}
use Rattle.flatgrammar.specs.declared.flat_item.Item.{Item}
use Rattle.flatgrammar.specs.declared.tables.Tables as code_flat
use Rattle.flatgrammar.specs.declared.closure.DottedRule.{DottedRule}
use Rattle.earleyitems.specs.ItemSets.{Adds, IsAdvanced, IsCompleted, waiting_or, waiting_in}
use Rattle.flatgrammar.specs.TableViews.{call_of, done_of, null_of, takes_of}
use Rattle.earleyitems.specs.EarleySets.{EarleySet}
use Rattle.earleyitems.specs.SetViews.{view, views, MovesOverNullable, IsPredictedTarget, expand}
use Rattle.earleyitems.proofs.ItemLemmas.{item_same}
use Rattle.flatgrammar.proofs.CallOfLemmas.{some_same}
use Rattle.flatgrammar.specs.ItemClosures.{item_at, ItemClosure}
use Rattle.earleyitems.proofs.AddsLemmas.{adds_both, adds_as, adds_none}
use Rattle.flatgrammar.proofs.InLemmas.{in_left, at_end, before_end}
use Rattle.earleyitems.proofs.ClosureLemmas.{in_right, in_either}

pub take_one : {A : Type 0} (xs : List A) (k : ℕ) (d : A) → k < length xs → take (k + 1) xs ≡ take k xs
    ++ slice_index_or xs k d ∷ []
take_one [] k d lt = absurd (omega arith)
take_one (x ∷ xs) zero d lt = refl
take_one (x ∷ xs) (suc k) d lt = (let e : suc k + 1 ≡ suc (k + 1) = omega arith in ap (λ v. take v (x ∷ xs)) e)
    ∙ ap (λ v. x ∷ v) (take_one xs k d (omega (arith, lt)))

pub take_past : {A : Type 0} (xs : List A) (k : ℕ) → length xs ≤ k → take k xs ≡ xs
take_past [] zero le = refl
take_past [] (suc k) le = refl
take_past (x ∷ xs) zero le = absurd (omega (arith, le))
take_past (x ∷ xs) (suc k) le = ap (λ v. x ∷ v) (take_past xs k (omega (arith, le)))

pub map_end : {A B : Type 0} (f : A → B) (xs : List A) (x : A) → map f (xs ++ x ∷ []) ≡ map f xs ++ f x ∷ []
map_end f [] x = refl
map_end f (y ∷ xs) x = ap (λ v. f y ∷ v) (map_end f xs x)

pub expand_end : (closures : ℕ → ItemClosure) (j : ℕ) (predictions : List ℕ) (h : ℕ)
    → expand closures j (predictions ++ h ∷ [])
    ≡ expand closures j predictions ++ map (item_at j) (closures h).dots
expand_end closures j [] h = append-nil (map (item_at j) (closures h).dots)
expand_end closures j (g ∷ predictions) h =
    ap (λ v. map (item_at j) (closures g).dots ++ v) (expand_end closures j predictions h)
    ∙ sym (append_assoc (map (item_at j) (closures g).dots) (expand closures j predictions)
    (map (item_at j) (closures h).dots))

pub in_more : {A : Type 0} (ws : List A) (w : A) (old mid new : List A) → Adds (λ a. In a ws) old mid
    → Adds (λ a. a ≡ w) mid new → Adds (λ a. In a (ws ++ w ∷ [])) old new
in_more ws w old mid new p q = adds_both (λ a. In a ws) (λ a. a ≡ w) (λ a. In a (ws ++ w ∷ [])) old mid new p q
    (λ a h. before_end a w ws h) (λ a h. in_left (w ∷ []) h)
    (λ a h. subst (λ v. In v (ws ++ w ∷ [])) (sym h) (at_end w ws))

pub in_none : {A : Type 0} (old : List A) → Adds (λ a. In a []) old old
in_none old = adds_none (λ a. In a []) old (λ a h. nobody a h)
  where
    nobody : {A : Type 0} {old : List A} (a : A) → In a [] → In a old
    nobody a h = elim h [ ]

module _ (flat : code_flat.Tables) (target : ℕ) where
  advanced_from : (ws vs : List Item) (a : Item) (r : IsAdvanced flat target ws a) → In r.from vs
      → IsAdvanced flat target vs a
  advanced_from ws vs a r h = record { from = r.from; stands = h; call = r.call; node = r.node; origin = r.origin }

  pub advanced_none : (old : List Item) → Adds (IsAdvanced flat target []) old old
  advanced_none old = adds_none (IsAdvanced flat target []) old (λ a r. nobody a r.from r.stands)
    where
      nobody : (a b : Item) → In b [] → In a old
      nobody a b h = elim h [ ]

  pub advanced_both : (ws vs : List Item) (old mid new : List Item) → Adds (IsAdvanced flat target ws) old mid
      → Adds (IsAdvanced flat target vs) mid new →
      Adds (IsAdvanced flat target (ws ++ vs)) old new
  advanced_both ws vs old mid new p q = adds_both (IsAdvanced flat target ws) (IsAdvanced flat target vs)
      (IsAdvanced flat target (ws ++ vs)) old mid new p q
      (λ a r. cases a r (in_either ws r.stands)) (λ a r. advanced_from ws (ws ++ vs) a r (in_left vs r.stands))
      (λ a r. advanced_from vs (ws ++ vs) a r (in_right ws r.stands))
    where
      cases : (a : Item) (r : IsAdvanced flat target (ws ++ vs) a) → In r.from ws ⊎ In r.from vs
          → IsAdvanced flat target ws a
          ⊎ IsAdvanced flat target vs a
      cases a r (inl h) = inl (advanced_from (ws ++ vs) ws a r h)
      cases a r (inr h) = inr (advanced_from (ws ++ vs) vs a r h)

module _ (flat : code_flat.Tables) (target : ℕ) where
  pub advanced_one : (item : Item) (step : ℕ) (old new : List Item) → call_of flat item ≡ Some (target, step) →
      Adds (λ a. a ≡ record { node = item.node; step = step; origin = item.origin }) old new
      → Adds (IsAdvanced flat target (item ∷ [])) old new
  advanced_one item step old new is p = adds_as (λ a. a ≡ record {
    node = item.node;
    step = step;
    origin = item.origin;
  })
      (IsAdvanced flat target (item ∷ [])) old new
      (λ a h. record {
        from = item;
        stands = now refl;
        call = is ∙ ap (λ v. Some (target, v)) (sym (ap (λ v. v.step) h));
        node = ap (λ v. v.node) h;
        origin = ap (λ v. v.origin) h;
      })
      (λ a r. back a r r.stands) p
    where
      back : (a : Item) (r : IsAdvanced flat target (item ∷ []) a) → In r.from (item ∷ [])
          → a ≡ record { node = item.node; step = step; origin = item.origin }
      back a r (now same) =
          let call : call_of flat item
          ≡ Some (target, a.step) = subst (λ v. call_of flat v ≡ Some (target, a.step)) same
          r.call in
          let pair = some_same (sym call ∙ is) in
          item_same a item.node step item.origin (r.node ∙ ap (λ v. v.node) same) (ap (λ v. v.1) pair)
          (r.origin ∙ ap (λ v. v.origin) same)
      back a r (on h) = elim h [ ]

  pub advanced_not : (item : Item) (old : List Item) → ((step : ℕ) → call_of flat item ≡ Some (target, step) → ⊥)
      → Adds (IsAdvanced flat target (item ∷ [])) old old
  advanced_not item old never = adds_none (IsAdvanced flat target (item ∷ [])) old (λ a r. nobody a r r.stands)
    where
      nobody : (a : Item) (r : IsAdvanced flat target (item ∷ []) a) → In r.from (item ∷ []) → In a old
      nobody a r (now same) = absurd (never a.step (subst (λ v. call_of flat v ≡ Some (target, a.step)) same r.call))
      nobody a r (on h) = elim h [ ]

  pub advanced_more : (ws : List Item) (k : ℕ) (d : Item) (old mid new : List Item) → k < length ws
      → Adds (IsAdvanced flat target (take k ws)) old mid →
      Adds (IsAdvanced flat target (slice_index_or ws k d ∷ [])) mid new
      → Adds (IsAdvanced flat target (take (k + 1) ws))
      old new
  advanced_more ws k d old mid new lt p q =
      subst (λ v. Adds (IsAdvanced flat target v) old new) (sym (take_one ws k d lt))
      (advanced_both flat target (take k ws) (slice_index_or ws k d ∷ []) old mid new p q)

  pub advanced_dots_more : (j : ℕ) (ws : List DottedRule) (k : ℕ) (d : DottedRule) (old mid new : List Item)
      → k < length ws
      → Adds (IsAdvanced flat target (map (item_at j) (take k ws))) old mid →
      Adds (IsAdvanced flat target (item_at j (slice_index_or ws k d) ∷ [])) mid new
      → Adds (IsAdvanced flat target (map (item_at j) (take (k + 1) ws))) old new
  advanced_dots_more j ws k d old mid new lt p q =
      subst (λ v. Adds (IsAdvanced flat target v) old new)
      (sym (ap (λ v. map (item_at j) v) (take_one ws k d lt)
      ∙ map_end (item_at j) (take k ws) (slice_index_or ws k d)))
      (advanced_both flat target (map (item_at j) (take k ws)) (item_at j (slice_index_or ws k d) ∷ []) old mid new p q)

  pub advanced_predictions_more : (closures : ℕ → ItemClosure) (j : ℕ) (hs : List ℕ) (k d : ℕ) (dots : List DottedRule)
      (old mid new : List Item) → k < length hs →
      dots ≡ (closures (slice_index_or hs k d)).dots → Adds (IsAdvanced flat target (expand closures j (take k hs))) old
      mid →
      Adds (IsAdvanced flat target (map (item_at j) dots)) mid new
      → Adds (IsAdvanced flat target (expand closures j (take (k + 1) hs))) old new
  advanced_predictions_more closures j hs k d dots old mid new lt is p q =
      subst (λ v. Adds (IsAdvanced flat target v) old new)
      (sym (ap (λ v. expand closures j v) (take_one hs k d lt)
      ∙ expand_end closures j (take k hs) (slice_index_or hs k d)))
      (advanced_both flat target (expand closures j (take k hs))
      (map (item_at j) (closures (slice_index_or hs k d)).dots)
      old
      mid new p
      (subst (λ v. Adds (IsAdvanced flat target (map (item_at j) v)) mid new) is q))

pub get_views : (flat : code_flat.Tables) (j : ℕ) (kept_sets : List EarleySet) (k : ℕ) (kept_set : EarleySet)
    → slice_get kept_sets k ≡ Some kept_set → slice_get (views flat j kept_sets) k ≡ Some (view flat (j + k) kept_set)
get_views flat j [] k kept_set is = absurd cc
get_views flat j (f ∷ kept_sets) zero kept_set is = let same : f ≡ kept_set = cc in let z : j ≡ j + 0 = omega arith in
    ap (λ v. Some (view flat j v)) same ∙ ap (λ v. Some (view flat v kept_set)) z
get_views flat j (f ∷ kept_sets) (suc k) kept_set is = let z : suc j + k ≡ j + suc k = omega arith in
    get_views flat (suc j) kept_sets k kept_set is ∙ ap (λ v. Some (view flat v kept_set)) z

pub none_views : (flat : code_flat.Tables) (j : ℕ) (kept_sets : List EarleySet) (k : ℕ) → slice_get kept_sets k ≡ None
    → slice_get (views flat j kept_sets) k ≡ None
none_views flat j [] k is = refl
none_views flat j (f ∷ kept_sets) zero is = absurd cc
none_views flat j (f ∷ kept_sets) (suc k) is = none_views flat (suc j) kept_sets k is

-- what waits in the set of an origin, if there is one
pub waiting_some : (flat : code_flat.Tables) (kept_sets : List EarleySet) (origin : ℕ) (kept_set : EarleySet)
    → slice_get kept_sets origin ≡ Some kept_set → waiting_in (views flat 0 kept_sets) [] origin ≡ view flat origin
    kept_set
waiting_some flat kept_sets origin kept_set is =
    let z : 0 + origin ≡ origin = omega arith in
    ap (λ v. waiting_or [] v) (get_views flat 0 kept_sets origin kept_set is ∙ ap (λ v. Some (view flat v kept_set)) z)

pub waiting_none : (flat : code_flat.Tables) (kept_sets : List EarleySet) (origin : ℕ)
    → slice_get kept_sets origin ≡ None
    → waiting_in (views flat 0 kept_sets) [] origin ≡ []
waiting_none flat kept_sets origin is = ap (λ v. waiting_or [] v) (none_views flat 0 kept_sets origin is)

pub completed_from : (flat : code_flat.Tables) (sets : List (List Item)) (item : Item) (old new : List Item)
    → done_of flat item ≡ true → Adds (IsAdvanced flat item.node (waiting_in sets [] item.origin)) old new
    → Adds (IsCompleted flat sets [] item) old new
completed_from flat sets item old new done p =
    adds_as (IsAdvanced flat item.node (waiting_in sets [] item.origin)) (IsCompleted flat sets [] item) old new
    (λ a r. record { done = done; advanced = r }) (λ a c. c.advanced) p

pub completed_undone : (flat : code_flat.Tables) (sets : List (List Item)) (item : Item) (old : List Item)
    → (done_of flat item ≡ true → ⊥) → Adds (IsCompleted flat sets [] item) old old
completed_undone flat sets item old never = adds_none (IsCompleted flat sets [] item) old (λ a c. absurd (never c.done))

pub one_on : (flat : code_flat.Tables) (item : Item) (target next : ℕ) (old new : List Item)
    → call_of flat item ≡ Some (target, next) → null_of flat target ≡ true → takes_of flat item ≡ false
    → (next ≡ item.step → ⊥) →
    Adds (λ a. a ≡ record { node = item.node; step = next; origin = item.origin }) old new
    → Adds (MovesOverNullable flat item) old new
one_on flat item target next old new is marked free moves p =
    adds_as (λ a. a ≡ record { node = item.node; step = next; origin = item.origin }) (MovesOverNullable flat item)
    old new
    (λ a h. record {
      passed = record {
        target = target;
        call = is ∙ ap (λ v. Some (target, v)) (sym (ap (λ v. v.step) h));
        null = marked;
        free = free;
        node = ap (λ v. v.node) h;
        origin = ap (λ v. v.origin) h;
      };
      moves = λ same. moves (sym (ap (λ v. v.step) h) ∙ same);
    })
    (λ a h. item_same a item.node next item.origin h.passed.node (ap (λ v. v.1) (some_same (sym h.passed.call ∙ is)))
    h.passed.origin) p

pub none_on : (flat : code_flat.Tables) (item : Item) (old : List Item)
    → ((target next : ℕ) → call_of flat item ≡ Some (target, next) → null_of flat target ≡ true → takes_of flat item
    ≡ false
    → (next ≡ item.step → ⊥) → ⊥) →
    Adds (MovesOverNullable flat item) old old
none_on flat item old never = adds_none (MovesOverNullable flat item) old
    (λ a h. absurd (never h.passed.target a.step h.passed.call h.passed.null h.passed.free h.moves))

pub asked_one : (flat : code_flat.Tables) (item : Item) (target next : ℕ) (old new : List ℕ)
    → call_of flat item ≡ Some (target, next) → Adds (λ t. t ≡ target) old new
    → Adds (IsPredictedTarget flat item) old new
asked_one flat item target next old new is p = adds_as (λ t. t ≡ target) (IsPredictedTarget flat item) old new
    (λ t h. record { next = next; call = is ∙ ap (λ v. Some (v, next)) (sym h) })
    (λ t h. ap (λ v. v.0) (some_same (sym h.call ∙ is))) p

pub length_views : (flat : code_flat.Tables) (j : ℕ) (kept_sets : List EarleySet) → length (views flat j kept_sets)
    ≡ length kept_sets
length_views flat j [] = refl
length_views flat j (f ∷ kept_sets) = ap suc (length_views flat (suc j) kept_sets)
