-- Blocks of predictions, one dotted rule at a time, and that they are tables.
-- Serves: lower, judge.
use Rattle.std.proofs.Common.{◌≡◌, ◌↔◌, ℕ, zero, suc, ◌+◌, ◌++◌, ◌<◌, ◌≤◌, ◌⊎◌, inl, inr, true, false, Option, Some}
use Rattle.std.proofs.Common.{None, List, [], ◌∷◌, length, set, slice_get, refl, sym, ◌∙◌, ap, subst, arith}
use Rattle.std.proofs.lemmas.Bool.{cases_lt}
use Rattle.flatgrammar.specs.Positions.{In, AreDifferent}
use Rattle.flatgrammar.specs.declared.closure.DottedRule.{DottedRule}
use Rattle.flatgrammar.specs.declared.closure.ItemClosure as code_closure
use Rattle.flatgrammar.specs.declared.flat_item.Item.{Item}
use Rattle.flatgrammar.specs.declared.inlined.Inlined.{Inlined}
use Rattle.flatgrammar.specs.declared.tables.Tables as code_flat
use Rattle.flatgrammar.specs.declared.flat_node.Node as code_node
use Rattle.flatgrammar.specs.TableViews.{call_of, count_in, start_target, GiveTargets, null_of, takes_of}
use Rattle.flatgrammar.specs.NodeSteps.{flat_of}
use Rattle.flatgrammar.specs.ItemClosures.{ItemClosure, dot, item_at, inlined_in, begin_count, call_at, Inside}
use Rattle.flatgrammar.specs.ItemClosures.{IsPassing, IsItemClosure}
use Rattle.flatgrammar.specs.ItemClosures.{closure_in, closure_of, IsPrediction, IsLate, AreTables, IsAlone}
use Rattle.flatgrammar.specs.Inlines.{inlined_at, owner_in, AreInlines}
use Rattle.flatgrammar.specs.ItemClosures.{owner_or}
use Rattle.flatgrammar.specs.PredictionClosures.{IsCalled, IsPast, SomeOf, Grows, BeginsAt, IsAtOwner}
use Rattle.flatgrammar.specs.PredictionClosures.{ArePredictionClosures}
use Rattle.flatgrammar.proofs.CallOfLemmas.{past_get, called_of, calls_late, equal_or, some_same}
use Rattle.flatgrammar.proofs.InLemmas.{in_left, at_end, before_end, different_end}
use Rattle.flatgrammar.proofs.InlinedLemmas.{set_same, set_other}

-- a list with one more
pub one_more : {A : Type 0} (xs ys : List A) (x : A) (Q : A → Type 0) → ys ≡ xs ++ x ∷ [] → ((a : A) → Q a ↔ (a ≡ x))
    → (a : A) → In a ys ↔ (In a xs ⊎ Q a)
one_more xs ys x Q is q a = (
  (λ h. to (before_end a x xs (subst (λ v. In a v) is h))),
  (λ h. subst (λ v. In a v) (sym is) (from h)),
)
  where
    to : In a xs ⊎ (a ≡ x) → In a xs ⊎ Q a
    to (inl h) = inl h
    to (inr same) = inr ((q a).1 same)

    from : In a xs ⊎ Q a → In a (xs ++ x ∷ [])
    from (inl h) = in_left (x ∷ []) h
    from (inr h) = subst (λ v. In v (xs ++ x ∷ [])) (sym ((q a).0 h)) (at_end x xs)

pub no_more : {A : Type 0} (xs : List A) (Q : A → Type 0) → ((a : A) → Q a → ⊥) → (a : A) → In a xs ↔ (In a xs ⊎ Q a)
no_more xs Q never a = ((λ h. inl h), (λ h. from h))
  where
    from : In a xs ⊎ Q a → In a xs
    from (inl h) = h
    from (inr h) = absurd (never a h)

module _ (flat : code_flat.Tables) (inlines : List (Option Inlined)) where
  pub called_one : (p : DottedRule) (t l : ℕ) → call_at flat p ≡ Some (t, l) → inlined_at inlines t ≡ None → (u : ℕ)
      → IsCalled flat inlines p u ↔ (u ≡ t)
  called_one p t l call own u = (
    (λ c. ap (λ v. v.0) (some_same (sym c.call ∙ call))),
    (λ same. record {
      next = l;
      call = call ∙ ap (λ v. Some (v, l)) (sym same);
      own = subst (λ v. inlined_at inlines v ≡ None) (sym same) own;
    }),
  )

  pub passed_one : (p : DottedRule) (t l : ℕ) → call_at flat p ≡ Some (t, l) → null_of flat t ≡ true
      → takes_of flat (item_at 0 p) ≡ false → (l ≡ p.step → ⊥) →
      (r : DottedRule) → IsPast flat p r ↔ (r ≡ dot p.node l)
  passed_one p t l call null free moves r = (
    (λ c. same_dot c.node (ap (λ v. v.1) (some_same (sym c.call ∙ call)))),
    (λ same. record {
      target = t;
      call = call ∙ ap (λ v. Some (t, v)) (sym (ap (λ v. v.step) same));
      null = null;
      free = free;
      node = ap (λ v. v.node) same;
      moves = λ e. moves (sym (ap (λ v. v.step) same) ∙ e);
    }),
  )
    where
      same_dot : r.node ≡ p.node → r.step ≡ l → r ≡ dot p.node l
      same_dot n s = ap (λ v. dot v r.step) n ∙ ap (λ v. dot p.node v) s

  one_of : (p : DottedRule) (Q : DottedRule → Type 0) → SomeOf (λ q. q ≡ p) Q ↔ Q p
  one_of p Q = ((λ s. subst (λ v. Q v) s.stands s.is), (λ h. record { dot = p; stands = refl; is = h }))

  or_of : {A B C : Type 0} → B ↔ C → (A ⊎ B) ↔ (A ⊎ C)
  or_of {A = A} {B = B} {C = C} e = ((λ h. to h), (λ h. from h))
    where
      to : A ⊎ B → A ⊎ C
      to (inl h) = inl h
      to (inr h) = inr (e.0 h)

      from : A ⊎ C → A ⊎ B
      from (inl h) = inl h
      from (inr h) = inr (e.1 h)

  iff_both : {A B C : Type 0} → A ↔ B → B ↔ C → A ↔ C
  iff_both e f = ((λ h. f.0 (e.0 h)), (λ h. e.1 (f.1 h)))

  iff_back : {A B : Type 0} → A ↔ B → B ↔ A
  iff_back e = (e.1, e.0)

  -- one more dotted rule
  pub grows_one : (p : DottedRule) (old new : ItemClosure) → new.dots ≡ old.dots ++ p ∷ []
      → ((t : ℕ) → In t new.calls ↔ (In t old.calls ⊎ IsCalled flat inlines p t)) →
      ((r : DottedRule) → In r new.passes ↔ (In r old.passes ⊎ IsPast flat p r))
      → Grows flat inlines (λ q. q ≡ p) old new
  grows_one p old new is calls passes = record {
    dots = one_more old.dots new.dots p (λ q. q ≡ p) is (λ q. ((λ h. h), (λ h. h)));
    calls = λ t. iff_both (calls t) (or_of (iff_back (one_of p (λ q. IsCalled flat inlines q t))));
    passes = λ r. iff_both (passes r) (or_of (iff_back (one_of p (λ q. IsPast flat q r))));
    different = λ d apart. subst (λ v. AreDifferent v) (sym is) (different_end p old.dots (apart p refl) d);
  }

  pub grows_none : (P : DottedRule → Type 0) (closure : ItemClosure) → ((p : DottedRule) → P p → ⊥)
      → Grows flat inlines P closure closure
  grows_none P closure never = record {
    dots = no_more closure.dots P never;
    calls = λ t. no_more closure.calls (λ u. SomeOf P (λ p. IsCalled flat inlines p u)) (λ u s. never s.dot s.stands) t;
    passes = λ r. no_more closure.passes (λ u. SomeOf P (λ p. IsPast flat p u)) (λ u s. never s.dot s.stands) r;
    different = λ d apart. d;
  }

  -- further dotted rules
  pub grows_then : (P Q R : DottedRule → Type 0) (a b c : ItemClosure) → ((p : DottedRule) → R p ↔ (P p ⊎ Q p))
      → ((p : DottedRule) → P p → Q p → ⊥) → Grows flat inlines P a b → Grows flat inlines Q b c
      → Grows flat inlines R a c
  grows_then P Q R a b c parts apart g h = record {
    dots = λ p. thrice (g.dots p) (h.dots p) (parts p);
    calls = λ t. thrice (g.calls t) (h.calls t) (some_parts (λ p. IsCalled flat inlines p t));
    passes = λ r. thrice (g.passes r) (h.passes r) (some_parts (λ p. IsPast flat p r));
    different = λ d far. h.different (g.different d (λ p is. far p ((parts p).1 (inl is))))
        (λ p is i. between p is (((g.dots p).0) i) far);
  }
    where
      thrice : {X Y Z V W U : Type 0} → Y ↔ (X ⊎ V) → Z ↔ (Y ⊎ W) → U ↔ (V ⊎ W) → Z ↔ (X ⊎ U)
      thrice {X = X} {Y = Y} {Z = Z} {V = V} {W = W} {U = U} e f u = ((λ z. to (f.0 z)), (λ s. from s))
        where
          old : X ⊎ V → X ⊎ U
          old (inl x) = inl x
          old (inr v) = inr (u.1 (inl v))

          to : Y ⊎ W → X ⊎ U
          to (inl y) = old (e.0 y)
          to (inr w) = inr (u.1 (inr w))

          new : V ⊎ W → Z
          new (inl v) = f.1 (inl (e.1 (inr v)))
          new (inr w) = f.1 (inr w)

          from : X ⊎ U → Z
          from (inl x) = f.1 (inl (e.1 (inl x)))
          from (inr s) = new (u.0 s)

      some_parts : (S : DottedRule → Type 0) → SomeOf R S ↔ (SomeOf P S ⊎ SomeOf Q S)
      some_parts S = ((λ s. to s ((parts s.dot).0 s.stands)), (λ s. from s))
        where
          to : (s : SomeOf R S) → P s.dot ⊎ Q s.dot → SomeOf P S ⊎ SomeOf Q S
          to s (inl h) = inl (record { dot = s.dot; stands = h; is = s.is })
          to s (inr h) = inr (record { dot = s.dot; stands = h; is = s.is })

          from : SomeOf P S ⊎ SomeOf Q S → SomeOf R S
          from (inl s) = record { dot = s.dot; stands = (parts s.dot).1 (inl s.stands); is = s.is }
          from (inr s) = record { dot = s.dot; stands = (parts s.dot).1 (inr s.stands); is = s.is }

      between : (p : DottedRule) → Q p → In p a.dots ⊎ P p → ((p : DottedRule) → R p → In p a.dots → ⊥) → ⊥
      between p q (inl i) far = far p ((parts p).1 (inr q)) i
      between p q (inr is) far = apart p is q

  pub grows_as : (P Q : DottedRule → Type 0) (a b : ItemClosure) → ((p : DottedRule) → P p ↔ Q p)
      → Grows flat inlines P a b
      → Grows flat inlines Q a b
  grows_as P Q a b same g =
      grows_then P (λ p. ⊥) Q a b b (λ p. ((λ q. inl ((same p).1 q)), (λ s. from p s))) (λ p h none. none) g
      (grows_none (λ p. ⊥) b (λ p none. none))
    where
      from : (p : DottedRule) → P p ⊎ ⊥ → Q p
      from p (inl h) = (same p).0 h
      from p (inr none) = absurd none

  -- the first steps of a node, one more
  pub node_none : (n : ℕ) (closure : ItemClosure)
      → Grows flat inlines (λ p. (p.node ≡ n) × (p.step < 0)) closure closure
  node_none n closure = grows_none (λ p. (p.node ≡ n) × (p.step < 0)) closure
      (λ p h. let lt = h.1 in absurd (omega (arith, lt)))

  pub node_more : (n k : ℕ) (a b c : ItemClosure) → Grows flat inlines (λ p. (p.node ≡ n) × (p.step < k)) a b
      → Grows flat inlines (λ q. q ≡ dot n k) b c →
      Grows flat inlines (λ p. (p.node ≡ n) × (p.step < k + 1)) a c
  node_more n k a b c g h =
      grows_then (λ p. (p.node ≡ n) × (p.step < k)) (λ q. q ≡ dot n k) (λ p. (p.node ≡ n) × (p.step < k + 1)) a b c
      (λ p. ((λ r. to p r (cases_lt p.step k)), (λ s. from p s)))
      (λ p r same. let lt = r.1 in let e : p.step ≡ k = ap (λ v. v.step) same in absurd (omega (arith, lt, e))) g h
    where
      to : (p : DottedRule) → (p.node ≡ n) × (p.step < k + 1) → (p.step < k) ⊎ (k ≤ p.step)
          → ((p.node ≡ n) × (p.step < k))
          ⊎ (p ≡ dot n k)
      to p r (inl lt) = inl (r.0, lt)
      to p r (inr le) = let lt = r.1 in let e : p.step ≡ k = omega (arith, lt, le) in
          inr (ap (λ v. dot v p.step) r.0 ∙ ap (λ v. dot n v) e)

      from : (p : DottedRule) → ((p.node ≡ n) × (p.step < k)) ⊎ (p ≡ dot n k) → (p.node ≡ n) × (p.step < k + 1)
      from p (inl r) = let lt = r.1 in (r.0, omega (arith, lt))
      from p (inr same) = let e : p.step ≡ k = ap (λ v. v.step) same in (ap (λ v. v.node) same, omega (arith, e))

  pub node_done : (n k : ℕ) (a b : ItemClosure) → k ≡ begin_count flat n
      → Grows flat inlines (λ p. (p.node ≡ n) × (p.step < k)) a b → Grows flat inlines (BeginsAt flat n) a b
  node_done n k a b is g = subst (λ v. Grows flat inlines (λ p. (p.node ≡ n) × (p.step < v)) a b) is g

  -- the closures of the first nodes
  pub closures_none : (closures : List code_closure.ItemClosure)
      → ((h : ℕ) → closure_in (slice_get closures h) ≡ closure_in None)
      → (h : ℕ) →
      Grows flat inlines (λ p. (p.node < 0) × IsAtOwner flat inlines h p) (closure_in None)
      (closure_in (slice_get closures h))
  closures_none closures empty h = subst (λ v. Grows flat inlines (λ p. (p.node < 0) × IsAtOwner flat inlines h p)
      (closure_in None) v) (sym (empty h))
      (grows_none (λ p. (p.node < 0) × IsAtOwner flat inlines h p) (closure_in None)
      (λ p r. let lt = r.0 in absurd (omega (arith, lt))))

  pub closures_more : (n g : ℕ) (closures : List code_closure.ItemClosure) (old new : code_closure.ItemClosure) → g
      ≡ owner_in inlines n
      → g < length closures → slice_get closures g ≡ Some old →
      Grows flat inlines (BeginsAt flat n) (closure_in (Some old)) (closure_in (Some new)) →
      ((h : ℕ) → Grows flat inlines (λ p. (p.node < n) × IsAtOwner flat inlines h p) (closure_in None)
      (closure_in (slice_get closures h))) →
      (h : ℕ) → Grows flat inlines (λ p. (p.node < n + 1) × IsAtOwner flat inlines h p) (closure_in None)
      (closure_in (slice_get (set closures g new) h))
  closures_more n g closures old new owner lt at grows are h = by (equal_or h g)
    where
      by : (h ≡ g) ⊎ (h ≡ g → ⊥)
          → Grows flat inlines (λ p. (p.node < n + 1) × IsAtOwner flat inlines h p) (closure_in None)
          (closure_in (slice_get (set closures g new) h))
      by (inl same) =
          let here : slice_get (set closures g new) h ≡ Some new = ap (λ v. slice_get (set closures g new) v) same
          ∙ set_same closures g new lt in
          let was : slice_get closures h ≡ Some old = ap (λ v. slice_get closures v) same ∙ at in
          subst (λ v. Grows flat inlines (λ p. (p.node < n + 1) × IsAtOwner flat inlines h p) (closure_in None)
          (closure_in v))
          (sym here)
          (grows_then (λ p. (p.node < n) × IsAtOwner flat inlines h p) (BeginsAt flat n)
          (λ p. (p.node < n + 1) × IsAtOwner flat inlines h p) (closure_in None) (closure_in (Some old))
          (closure_in (Some new))
          (λ p. ((λ r. to p r (cases_lt p.node n)), (λ s. from p s))) (λ p r b. let less = r.0 in let e = b.0 in
          absurd (omega (arith, less, e)))
          (subst (λ v. Grows flat inlines (λ p. (p.node < n) × IsAtOwner flat inlines h p) (closure_in None)
          (closure_in v))
          was (are h)) grows)
        where
          to : (p : DottedRule) → (p.node < n + 1) × IsAtOwner flat inlines h p → (p.node < n) ⊎ (n ≤ p.node)
              → ((p.node < n) × IsAtOwner flat inlines h p) ⊎ BeginsAt flat n p
          to p r (inl less) = inl (less, r.1)
          to p r (inr le) = let less = r.0 in let e : p.node ≡ n = omega (arith, less, le) in
              inr (e, subst (λ v. p.step < begin_count flat v) e r.1.1)

          from : (p : DottedRule) → ((p.node < n) × IsAtOwner flat inlines h p) ⊎ BeginsAt flat n p → (p.node < n + 1)
              × IsAtOwner flat inlines h p
          from p (inl r) = let less = r.0 in (omega (arith, less), r.1)
          from p (inr b) = let e = b.0 in (
            omega (arith, e),
            (
              ap (λ v. owner_in inlines v) e ∙ (sym owner ∙ sym same),
              subst (λ v. p.step < begin_count flat v) (sym e) b.1,
            ),
          )
      by (inr other) =
          subst (λ v. Grows flat inlines (λ p. (p.node < n + 1) × IsAtOwner flat inlines h p) (closure_in None)
          (closure_in v))
          (sym (set_other closures g h new other))
          (grows_as (λ p. (p.node < n) × IsAtOwner flat inlines h p)
          (λ p. (p.node < n + 1) × IsAtOwner flat inlines h p)
          (closure_in None) (closure_in (slice_get closures h))
          (λ p. ((λ r. let less = r.0 in (omega (arith, less), r.1)), (λ r. (to p r (cases_lt p.node n), r.1))))
          (are h))
        where
          to : (p : DottedRule) → (p.node < n + 1) × IsAtOwner flat inlines h p → (p.node < n) ⊎ (n ≤ p.node)
              → p.node < n
          to p r (inl less) = less
          to p r (inr le) =
              let less = r.0 in
              let e : p.node ≡ n = omega (arith, less, le) in
              absurd (other (sym r.1.0 ∙ (ap (λ v. owner_in inlines v) e ∙ sym owner)))

  pub closures_done : (n : ℕ) (closures : List code_closure.ItemClosure) → length flat.nodes.items ≤ n →
      ((h : ℕ) → Grows flat inlines (λ p. (p.node < n) × IsAtOwner flat inlines h p) (closure_in None)
      (closure_in (slice_get closures h))) → ArePredictionClosures flat inlines closures
  closures_done n closures le are h =
      grows_as (λ p. (p.node < n) × IsAtOwner flat inlines h p) (IsAtOwner flat inlines h) (closure_in None)
      (closure_in (slice_get closures h)) (λ p. ((λ r. r.1), (λ r. (to p r.1, r)))) (are h)
    where
      none : (o : Option code_node.Node) → o ≡ None → (k : ℕ) → k < count_in o → ⊥
      none None is k lt = absurd (omega (arith, lt))
      none (Some d) is k lt = absurd cc

      to : (p : DottedRule) → p.step < begin_count flat p.node → p.node < n
      to p lt = by (cases_lt p.node n)
        where
          by : (p.node < n) ⊎ (n ≤ p.node) → p.node < n
          by (inl less) = less
          by (inr more) = absurd (none (slice_get flat.nodes.items p.node)
              (past_get flat.nodes.items p.node (omega (arith, le, more))) p.step lt)

  -- a node's prediction is within the nodes
  pub owner_within : (n : ℕ) → ((t : ℕ) (inlined : Inlined) → inlined_at inlines t ≡ Some inlined
      → inlined.prediction < length flat.nodes.items) → n < length flat.nodes.items
      → owner_in inlines n < length flat.nodes.items
  owner_within n are lt = by (inlined_at inlines n) refl
    where
      by : (o : Option Inlined) → inlined_at inlines n ≡ o → owner_or o n < length flat.nodes.items
      by None is = lt
      by (Some i) is = are n i is

module _ (flat : code_flat.Tables) (targets : GiveTargets (flat_of flat) flat.targets.items)
    (inlines : List (Option Inlined))
    (are : AreInlines flat inlines)
    (made : (h : ℕ) → Grows flat inlines (IsAtOwner flat inlines h) (closure_in None) (closure_of flat h)) where
  dot_stands : (h : ℕ) (p : DottedRule) → owner_in inlines p.node ≡ h → p.step < begin_count flat p.node
      → In p (closure_of flat h).dots
  dot_stands h p owner lt = ((made h).dots p).1 (inr (owner, lt))

  at_owner : (h : ℕ) (p : DottedRule) → In p (closure_of flat h).dots → IsAtOwner flat inlines h p
  at_owner h p i = by (((made h).dots p).0 i)
    where
      by : In p [] ⊎ IsAtOwner flat inlines h p → IsAtOwner flat inlines h p
      by (inl none) = elim none [ ]
      by (inr is) = is

  owner_up : (t : ℕ) (i : Inlined) → inlined_at inlines t ≡ Some i → owner_in inlines t ≡ owner_in inlines i.node
  owner_up t i is = ap (λ v. owner_or v t) is ∙ (are t i is).owner

  owner_own : (t : ℕ) → inlined_at inlines t ≡ None → owner_in inlines t ≡ t
  owner_own t is = ap (λ v. owner_or v t) is

  is_prediction : (t : ℕ) → inlined_at inlines t ≡ None → IsPrediction flat t
  is_prediction t is k lt = dot_stands t (dot t k) (owner_own t is) lt

  -- wherever the prediction of a node is predicted, the node begins
  inside_owner : (fuel t k : ℕ) → length inlines ≤ t + fuel → k < begin_count flat t
      → Inside flat (owner_in inlines t) (dot t k)
  inside_owner zero t k le lt =
      let past : inlined_at inlines t ≡ None = ap (λ v. inlined_in v) (past_get inlines t (omega (arith, le))) in
      subst (λ v. Inside flat v (dot t k)) (sym (owner_own t past)) (Inside.begun lt)
  inside_owner (suc fuel) t k le lt = by (inlined_at inlines t) refl
      (λ i is. let up = (are t i is).above in inside_owner fuel i.node i.step (omega (arith, le, up))
      (are t i is).begins)
    where
      by : (o : Option Inlined) → inlined_at inlines t ≡ o
          → ((i : Inlined) → inlined_at inlines t ≡ Some i → Inside flat (owner_in inlines i.node) (dot i.node i.step))
          → Inside flat (owner_in inlines t) (dot t k)
      by None is rec = subst (λ v. Inside flat v (dot t k)) (sym (owner_own t is)) (Inside.begun lt)
      by (Some i) is rec = subst (λ v. Inside flat v (dot t k)) (sym (owner_up t i is))
          (Inside.called (rec i is) (are t i is).call lt)

  called_in : (h : ℕ) (from : DottedRule) (t l : ℕ) → In from (closure_of flat h).dots
      → call_at flat from ≡ Some (t, l) →
      In t (closure_of flat h).calls ⊎ ((k : ℕ) → k < begin_count flat t → In (dot t k) (closure_of flat h).dots)
  called_in h from t l lies call = by (inlined_at inlines t) refl
    where
      by : (o : Option Inlined) → inlined_at inlines t ≡ o → In t (closure_of flat h).calls
          ⊎ ((k : ℕ) → k < begin_count flat t → In (dot t k) (closure_of flat h).dots)
      by None is = inl (((made h).calls t).1 (inr (record {
        dot = from;
        stands = at_owner h from lies;
        is = record { next = l; call = call; own = is };
      })))
      by (Some i) is =
          let only = (are t i is).only from.node from.step l call in
          inr (λ k lt. dot_stands h (dot t k) (owner_up t i is
          ∙ (ap (λ v. owner_in inlines v) only.0 ∙ (at_owner h from lies).0)) lt)

  calling_from : (h t : ℕ) → In t (closure_of flat h).calls
      → SomeOf (IsAtOwner flat inlines h) (λ p. IsCalled flat inlines p t)
  calling_from h t i = by (((made h).calls t).0 i)
    where
      by : In t [] ⊎ SomeOf (IsAtOwner flat inlines h) (λ p. IsCalled flat inlines p t)
          → SomeOf (IsAtOwner flat inlines h) (λ p. IsCalled flat inlines p t)
      by (inl none) = elim none [ ]
      by (inr s) = s

  passing_from : (h : ℕ) (r : DottedRule) → In r (closure_of flat h).passes
      → SomeOf (IsAtOwner flat inlines h) (λ p. IsPast flat p r)
  passing_from h r i = by (((made h).passes r).0 i)
    where
      by : In r [] ⊎ SomeOf (IsAtOwner flat inlines h) (λ p. IsPast flat p r)
          → SomeOf (IsAtOwner flat inlines h) (λ p. IsPast flat p r)
      by (inl none) = elim none [ ]
      by (inr s) = s

  prediction_closure : (h : ℕ) → IsPrediction flat h → IsItemClosure flat h (closure_of flat h)
  prediction_closure h prediction = record {
    begun = prediction;
    inside = λ p i. let at = at_owner h p i in subst (λ v. Inside flat v p) at.0
        (inside_owner (length inlines) p.node p.step (omega arith) at.1);
    called = λ t c. called_in h c.from t c.next c.stands c.call;
    calls = λ t i. let s = calling_from h t i in record {
      from = s.dot;
      stands = dot_stands h s.dot s.stands.0 s.stands.1;
      next = s.is.next;
      call = s.is.call;
    };
    passed = λ r p. passed r p (equal_or r.step p.from.step);
    passes = λ r i. let s = passing_from h r i in
        record {
          from = s.dot;
          stands = dot_stands h s.dot s.stands.0 s.stands.1;
          target = s.is.target;
          call = s.is.call;
          null = s.is.null;
          free = s.is.free;
          node = s.is.node;
        };
    late = λ r i lt. let s = passing_from h r i in
        calls_late flat (called_of flat targets (item_at 0 s.dot) s.is.target r.step s.is.call).calls s.is.moves
        (subst (λ v. r.step < begin_count flat v) s.is.node lt);
    different = (made h).different tt (λ p is i. elim i [ ]);
  }
    where
      passed : (r : DottedRule) (p : IsPassing flat (closure_of flat h).dots r) → (r.step ≡ p.from.step)
          ⊎ (r.step ≡ p.from.step → ⊥) → In r (closure_of flat h).passes ⊎ In r (closure_of flat h).dots
      passed r p (inl same) =
          let is : r ≡ p.from = ap (λ v. dot v r.step) p.node ∙ ap (λ v. dot p.from.node v) same in
          inr (subst (λ v. In v (closure_of flat h).dots) (sym is) p.stands)
      passed r p (inr moves) = inl (((made h).passes r).1 (inr (record {
        dot = p.from;
        stands = at_owner h p.from p.stands;
        is = record { target = p.target; call = p.call; null = p.null; free = p.free; node = p.node; moves = moves };
      })))

  late_prediction : (a : Item) (t l : ℕ) → IsLate flat a → call_of flat a ≡ Some (t, l) → IsPrediction flat t
  late_prediction a t l late call = by (inlined_at inlines t) refl late
    where
      by : (o : Option Inlined) → inlined_at inlines t ≡ o → IsLate flat a → IsPrediction flat t
      by None is late = is_prediction t is
      by (Some i) is (inl over) =
          let only = (are t i is).only a.node a.step l call in
          absurd (over (subst (λ v. a.step < begin_count flat v) only.0
          (subst (λ v. v < begin_count flat i.node) only.1 (are t i is).begins)))
      by (Some i) is (inr back) =
          let only = (are t i is).only a.node a.step l call in
          let here : call_at flat (dot i.node i.step) ≡ call_of flat a = ap (λ v. call_at flat (dot v i.step)) only.0
          ∙ ap (λ v. call_at flat (dot a.node v)) only.1 in
          let next : i.next ≡ a.step = ap (λ v. v.1) (some_same (sym (are t i is).call ∙ (here ∙ back.1))) in
          absurd ((are t i is).moves (next ∙ sym only.1))

  whole_prediction : (t : ℕ) → start_target flat ≡ Some t → IsPrediction flat t
  whole_prediction t whole = by (inlined_at inlines t) refl
    where
      by : (o : Option Inlined) → inlined_at inlines t ≡ o → IsPrediction flat t
      by None is = is_prediction t is
      by (Some i) is = absurd ((are t i is).whole whole)

  -- closures of predictions are tables
  pub prediction_tables : AreTables flat
  prediction_tables = record {
    closure = λ h prediction. prediction_closure h prediction;
    apart = λ g h at_g at_h p in_g in_h. sym (at_owner g p in_g).0 ∙ (at_owner h p in_h).0;
    inlined = λ h t prediction i. is_prediction t (calling_from h t i).is.own;
    outer = late_prediction;
    whole = whole_prediction;
  }

  pub inlines_alone : (t : ℕ) (i : Inlined) → inlined_at inlines t ≡ Some i → IsAlone flat t i
  inlines_alone t i is = let one = are t i is in record {
    stands = dot_stands i.prediction (dot i.node i.step) (sym one.owner) one.begins;
    begins = one.begins;
    call = one.call;
    moves = one.moves;
    only = one.only;
  }
