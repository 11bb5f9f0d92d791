-- A set kept as predictions with their closures: what the closures imply stands, and asks for nothing more.
-- Serves: judge.
use Rattle.std.proofs.Common.{◌≡◌, ℕ, ◌<◌, ◌⊎◌, false, inl, inr, Some, None, List, [], ◌∷◌, ◌++◌, length, map}
use Rattle.std.proofs.Common.{slice_get, refl, sym, ◌∙◌, ap, subst}
use Rattle.flatgrammar.specs.Flat.{at}
use Rattle.flatgrammar.specs.Holds.{Holds}
use Rattle.flatgrammar.specs.Positions.{In, now, on, AreDifferent}
use Rattle.flatgrammar.specs.declared.flat_item.Item.{Item}
use Rattle.flatgrammar.specs.declared.tables.Tables as code_flat
use Rattle.flatgrammar.specs.NodeSteps.{flat_of}
use Rattle.flatgrammar.specs.TableViews.{call_of, takes_of, GiveTargets}
use Rattle.earleyitems.specs.ItemSets.{waiting_or, IsPredicted, IsCompleted}
use Rattle.earleyitems.specs.Closed.{HoldAll}
use Rattle.earleyitems.specs.Worklist.{AdvancesNullable, IsWork, IsWorked}
use Rattle.flatgrammar.specs.declared.closure.DottedRule.{DottedRule}
use Rattle.flatgrammar.specs.ItemClosures.{item_at, ItemClosure, begin_count, call_at, Inside, begun, called}
use Rattle.earleyitems.specs.SetViews.{expand, full, AreClosures, AreOpened}
use Rattle.earleyitems.proofs.ScanLastLemmas.{predicted_holds}
use Rattle.flatgrammar.proofs.InLemmas.{in_left}
use Rattle.earleyitems.proofs.ItemLemmas.{item_same}

pub in_right : {A : Type 0} {a : A} (xs : List A) {ys : List A} → In a ys → In a (xs ++ ys)
in_right [] h = h
in_right (x ∷ xs) h = on (in_right xs h)

pub in_either : {A : Type 0} {a : A} (xs : List A) {ys : List A} → In a (xs ++ ys) → In a xs ⊎ In a ys
in_either [] h = inr h
in_either (x ∷ xs) (now same) = inl (now same)
in_either (x ∷ xs) (on h) = by (in_either xs h)
  where
    by : {A : Type 0} {a x : A} {xs ys : List A} → In a xs ⊎ In a ys → In a (x ∷ xs) ⊎ In a ys
    by (inl g) = inl (on g)
    by (inr g) = inr g

pub in_map : (j : ℕ) (p : DottedRule) (dots : List DottedRule) → In p dots → In (item_at j p) (map (item_at j) dots)
in_map j p [] h = elim h [ ]
in_map j p (q ∷ dots) (now same) = now (ap (λ v. item_at j v) same)
in_map j p (q ∷ dots) (on h) = on (in_map j p dots h)

pub record Mapped (j : ℕ) (a : Item) (dots : List DottedRule) : Type 0 where
  pub dot : DottedRule
  pub stands : In dot dots
  pub is : a ≡ item_at j dot

pub from_map : (j : ℕ) (a : Item) (dots : List DottedRule) → In a (map (item_at j) dots) → Mapped j a dots
from_map j a [] h = elim h [ ]
from_map j a (q ∷ dots) (now same) = record { dot = q; stands = now refl; is = same }
from_map j a (q ∷ dots) (on h) = let m = from_map j a dots h in
    record { dot = m.dot; stands = on m.stands; is = m.is }

pub record Expanded (closures : ℕ → ItemClosure) (j : ℕ) (predictions : List ℕ) (a : Item) : Type 0 where
  pub prediction : ℕ
  pub stands : In prediction predictions
  pub dot : DottedRule
  pub lies : In dot (closures prediction).dots
  pub is : a ≡ item_at j dot

pub in_expand : (closures : ℕ → ItemClosure) (j h : ℕ) (predictions : List ℕ) (p : DottedRule) → In h predictions
    → In p (closures h).dots
    → In (item_at j p) (expand closures j predictions)
in_expand closures j h [] p at_h lies = elim at_h [ ]
in_expand closures j h (g ∷ predictions) p (now same) lies =
    in_left (expand closures j predictions)
    (in_map j p (closures g).dots (subst (λ v. In p (closures v).dots) same lies))
in_expand closures j h (g ∷ predictions) p (on at_h) lies = in_right (map (item_at j) (closures g).dots)
    (in_expand closures j h predictions p at_h lies)

pub from_expand : (closures : ℕ → ItemClosure) (j : ℕ) (predictions : List ℕ) (a : Item)
    → In a (expand closures j predictions)
    → Expanded closures j predictions a
from_expand closures j [] a h = elim h [ ]
from_expand closures j (g ∷ predictions) a h = by (in_either (map (item_at j) (closures g).dots) h)
    (λ r. from_expand closures j predictions a r)
  where
    by : In a (map (item_at j) (closures g).dots) ⊎ In a (expand closures j predictions)
        → (In a (expand closures j predictions) → Expanded closures j predictions a)
        → Expanded closures j (g ∷ predictions) a
    by (inl m) rec = let f = from_map j a (closures g).dots m in
        record { prediction = g; stands = now refl; dot = f.dot; lies = f.stands; is = f.is }
    by (inr r) rec = let e = rec r in record {
      prediction = e.prediction;
      stands = on e.stands;
      dot = e.dot;
      lies = e.lies;
      is = e.is;
    }

module _ (flat : code_flat.Tables) (closures : ℕ → ItemClosure) (sets : List (List Item)) where
  -- the items of the closures ask for nothing that is not there
  pub closures_worked : (front predictions : List ℕ) (items : List Item) → slice_get sets (length sets) ≡ None
      → AreClosures flat closures predictions → ((h : ℕ) → In h front → In h predictions) →
      AreOpened closures (length sets) front predictions items
      → IsWorked flat sets (expand closures (length sets) front)
      (full closures (length sets) predictions items)
  closures_worked front predictions items none are among opened a h b w = by
      (from_expand closures (length sets) front a h) w
    where
      predicted : (e : Expanded closures (length sets) front a) → IsPredicted flat (length sets) a b
          → In b (full closures (length sets) predictions items)
      predicted e p =
          let closure = are.closure e.prediction (among e.prediction e.stands) in
          let call : call_at flat e.dot
          ≡ Some (p.target, p.next) = subst (λ v. call_of flat v ≡ Some (p.target, p.next))
          e.is p.call in
          let is = item_same b p.target b.step (length sets) p.begun.0 refl p.begun.2 in
          subst (λ v. In v (full closures (length sets) predictions items)) (sym is)
          (in_left items (cases (closure.called p.target
          (record { from = e.dot; stands = e.lies; next = p.next; call = call }))))
        where
          cases : In p.target (closures e.prediction).calls ⊎ ((k : ℕ) → k < begin_count flat p.target
              → In (record { node = p.target; step = k }) (closures e.prediction).dots) →
              In (item_at (length sets) (record { node = p.target; step = b.step }))
              (expand closures (length sets) predictions)
          cases (inl there) =
              let at_target = opened.calls e.prediction e.stands p.target there in
              in_expand closures (length sets) p.target predictions
              (record { node = p.target; step = b.step }) at_target
              ((are.closure p.target at_target).begun b.step p.begun.1)
          cases (inr own) = in_expand closures (length sets) e.prediction predictions
              (record { node = p.target; step = b.step })
              (among e.prediction e.stands) (own b.step p.begun.1)

      passed : (e : Expanded closures (length sets) front a) → AdvancesNullable flat a b
          → In b (full closures (length sets) predictions items)
      passed e p =
          let closure = are.closure e.prediction (among e.prediction e.stands) in
          let call : call_at flat e.dot
          ≡ Some (p.target, b.step) = subst (λ v. call_of flat v ≡ Some (p.target, b.step))
          e.is p.call in
          let node : b.node ≡ e.dot.node = p.node ∙ ap (λ v. v.node) e.is in
          let origin : b.origin ≡ length sets = p.origin ∙ ap (λ v. v.origin) e.is in
          let is = item_same b e.dot.node b.step (length sets) node refl origin in
          subst (λ v. In v (full closures (length sets) predictions items)) (sym is)
          (cases (closure.passed (record { node = e.dot.node; step = b.step })
          (record {
            from = e.dot;
            stands = e.lies;
            target = p.target;
            call = call;
            null = p.null;
            free = subst (λ v. takes_of flat v ≡ false) e.is p.free;
            node = refl;
          })))
        where
          cases : In (record { node = e.dot.node; step = b.step }) (closures e.prediction).passes
              ⊎ In (record { node = e.dot.node; step = b.step }) (closures e.prediction).dots →
              In (item_at (length sets) (record { node = e.dot.node; step = b.step }))
              (full closures (length sets) predictions items)
          cases (inl r) = opened.passes e.prediction e.stands (record { node = e.dot.node; step = b.step }) r
          cases (inr r) = in_left items (in_expand closures (length sets) e.prediction predictions
              (record { node = e.dot.node; step = b.step }) (among e.prediction e.stands) r)

      completed : (e : Expanded closures (length sets) front a) → IsCompleted flat sets [] a b
          → In b (full closures (length sets) predictions items)
      completed e c =
          let origin : a.origin ≡ length sets = ap (λ v. v.origin) e.is in
          let waiters : In c.advanced.from (waiting_or [] (slice_get sets (length sets))) =
          subst (λ v. In c.advanced.from (waiting_or [] (slice_get sets v))) origin c.advanced.stands in
          nobody c.advanced.from (subst (λ v. In c.advanced.from (waiting_or [] v)) none waiters)
        where
          nobody : (from : Item) → In from [] → In b (full closures (length sets) predictions items)
          nobody from h = elim h [ ]

      by : Expanded closures (length sets) front a → IsWork flat sets a b
          → In b (full closures (length sets) predictions items)
      by e (inl (inl p)) = predicted e p
      by e (inl (inr p)) = passed e p
      by e (inr c) = completed e c

module _ (flat : code_flat.Tables) (targets : GiveTargets (flat_of flat) flat.targets.items) (x : List ℕ)
    (sets : List (List Item)) (earlier : HoldAll (flat_of flat) x sets) where
  -- where a target is predicted, all of its closure stands
  pub inside_holds : (h : ℕ) → ((k : ℕ) → k < begin_count flat h → Holds (flat_of flat) x (length sets) (at h k)
      (length sets)) → {p : DottedRule} → Inside flat h p →
      Holds (flat_of flat) x (length sets) (at p.node p.step) (length sets)
  inside_holds h predicted (begun {k = k} lt) = predicted k lt
  inside_holds h predicted (called {p = p} {t = t} {l = l} {k = k} i call lt) =
      predicted_holds flat targets x sets [] earlier (λ a g. nobody a g) (item_at (length sets) p)
      (record { node = t; step = k; origin = length sets })
      (inside_holds h predicted i) (record { target = t; next = l; call = call; begun = (refl, lt, refl) })
    where
      nobody : (a : Item) → In a [] → Holds (flat_of flat) x (length sets) (at a.node a.step) a.origin
      nobody a g = elim g [ ]

pub different_left : {A : Type 0} (xs ys : List A) → AreDifferent (xs ++ ys) → AreDifferent xs
different_left [] ys d = tt
different_left (x ∷ xs) ys d = ((λ h. d.0 (in_left ys h)), different_left xs ys d.1)

pub different_right : {A : Type 0} (xs ys : List A) → AreDifferent (xs ++ ys) → AreDifferent ys
different_right [] ys d = d
different_right (x ∷ xs) ys d = different_right xs ys d.1

pub different_apart : {A : Type 0} {a : A} (xs ys : List A) → AreDifferent (xs ++ ys) → In a xs → In a ys → ⊥
different_apart [] ys d h g = elim h [ ]
different_apart (x ∷ xs) ys d (now same) g = d.0 (subst (λ v. In v (xs ++ ys)) same (in_right xs g))
different_apart (x ∷ xs) ys d (on h) g = different_apart xs ys d.1 h g

pub different_both : {A : Type 0} (xs ys : List A) → AreDifferent xs → AreDifferent ys
    → ((a : A) → In a xs → In a ys → ⊥) → AreDifferent (xs ++ ys)
different_both [] ys dx dy apart = dy
different_both (x ∷ xs) ys dx dy apart =
    ((λ h. by (in_either xs h)), different_both xs ys dx.1 dy (λ a g h. apart a (on g) h))
  where
    by : In x xs ⊎ In x ys → ⊥
    by (inl g) = dx.0 g
    by (inr g) = apart x (now refl) g

dot_same : (j : ℕ) (p q : DottedRule) → item_at j p ≡ item_at j q → p ≡ q
dot_same j p q h =
    let n : p.node ≡ q.node = ap (λ v. v.node) h in
    let s : p.step ≡ q.step = ap (λ v. v.step) h in
    ap (λ v. record { node = v; step = p.step }) n ∙ ap (λ v. record { node = q.node; step = v }) s

pub different_map : (j : ℕ) (dots : List DottedRule) → AreDifferent dots → AreDifferent (map (item_at j) dots)
different_map j [] d = tt
different_map j (p ∷ dots) d = (
  (λ h. let m = from_map j (item_at j p) dots h in
      d.0 (subst (λ v. In v dots) (sym (dot_same j p m.dot m.is)) m.stands)),
  different_map j dots d.1,
)

pub different_dots : (j : ℕ) (dots : List DottedRule) → AreDifferent (map (item_at j) dots) → AreDifferent dots
different_dots j [] d = tt
different_dots j (p ∷ dots) d = ((λ h. d.0 (in_map j p dots h)), different_dots j dots d.1)

module _ (flat : code_flat.Tables) (closures : ℕ → ItemClosure) (j : ℕ) where
  pub expand_different : (predictions : List ℕ) → AreClosures flat closures predictions → AreDifferent predictions
      → AreDifferent (expand closures j predictions)
  expand_different [] are d = tt
  expand_different (h ∷ predictions) are d =
      different_both (map (item_at j) (closures h).dots) (expand closures j predictions)
      (different_map j (closures h).dots (are.closure h (now refl)).different)
      (expand_different predictions (record {
        closure = λ g at_g. are.closure g (on at_g);
        apart = λ g k at_g at_k. are.apart g k (on at_g) (on at_k);
      }) d.1) apart
    where
      apart : (a : Item) → In a (map (item_at j) (closures h).dots) → In a (expand closures j predictions) → ⊥
      apart a m r =
          let f = from_map j a (closures h).dots m in
          let e = from_expand closures j predictions a r in
          let same : f.dot ≡ e.dot = dot_same j f.dot e.dot (sym f.is ∙ e.is) in
          let one = are.apart h e.prediction (now refl) (on e.stands) e.dot
          (subst (λ v. In v (closures h).dots) same f.stands) e.lies in
          d.0 (subst (λ v. In v predictions) (sym one) e.stands)

  -- each item once, where no item beside the closures stands in one
  pub full_different : (predictions : List ℕ) (items : List Item) → AreClosures flat closures predictions
      → AreDifferent predictions
      → AreDifferent items →
      ((a : Item) → In a (expand closures j predictions) → In a items → ⊥)
      → AreDifferent (full closures j predictions items)
  full_different predictions items are d e apart = different_both (expand closures j predictions) items
      (expand_different predictions are d)
      e apart
