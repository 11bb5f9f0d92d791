-- The worklist over predictions and items.
-- Serves: judge.
use Rattle.std.proofs.Common.{◌≡◌, ℕ, suc, ◌+◌, ◌-◌, ◌*◌, ◌<◌, ◌≤◌, ◌⊎◌, inl, inr, Option, Some, None, List, [], ◌∷◌}
use Rattle.std.proofs.Common.{◌++◌, length, map, take, slice_get, slice_index_or, refl, sym, ◌∙◌, ap, subst, arith}
use Rattle.std.proofs.Common.{length-append}
use Rattle.std.proofs.lemmas.List.{take-append-le}
use Rattle.flatgrammar.specs.Flat.{at}
use Rattle.flatgrammar.specs.Holds.{Holds}
use Rattle.flatgrammar.specs.Positions.{positions, In, AreDifferent}
use Rattle.flatgrammar.proofs.PositionsLemmas.{holds_origin, at_most, every, in_every, length_every}
use Rattle.flatgrammar.specs.declared.flat_item.Item.{Item}
use Rattle.flatgrammar.specs.declared.closure.DottedRule.{DottedRule}
use Rattle.flatgrammar.specs.declared.tables.Tables as code_flat
use Rattle.flatgrammar.specs.FlatViews.{node_of}
use Rattle.flatgrammar.specs.NodeSteps.{flat_of}
use Rattle.earleyitems.specs.ItemSets.{Adds, waiting_or, IsCompleted}
use Rattle.flatgrammar.specs.TableViews.{call_of, called_by, GiveTargets, AreNulls}
use Rattle.earleyitems.specs.Closed.{Hold, HoldAll, IsClosed, Keeps}
use Rattle.earleyitems.specs.Worklist.{IsWork, IsWorked}
use Rattle.flatgrammar.specs.ItemClosures.{item_at, begin_count, Inside, begun, called, IsItemClosure, closure_of}
use Rattle.flatgrammar.specs.ItemClosures.{IsPrediction, IsLate}
use Rattle.flatgrammar.specs.ItemClosures.{AreTables}
use Rattle.earleyitems.specs.SetViews.{expand, full, AreClosures, IsPredictedTarget, MovesOverNullable, IsAddedFor}
use Rattle.earleyitems.specs.SetViews.{IsWorklist}
use Rattle.earleyitems.proofs.SetAtMostLemmas.{set_at_most}
use Rattle.flatgrammar.proofs.CallOfLemmas.{equal_or, target_stands, calls_late, called_of, get_below}
use Rattle.earleyitems.proofs.ScanLastLemmas.{predicted_holds, completed_holds}
use Rattle.earleyitems.proofs.IsWorkedLemmas.{passed_holds, none_hold, worked_closed}
use Rattle.flatgrammar.proofs.InLemmas.{in_left, among_more, at_index_in, in_front}
use Rattle.earleyitems.proofs.ClosureLemmas.{in_right, in_either, in_expand, from_expand, closures_worked, inside_holds}
use Rattle.earleyitems.proofs.ClosureLemmas.{full_different, in_map, from_map}
use Rattle.earleyitems.proofs.ItemLemmas.{item_same}

pub front_same : {A : Type 0} (k : ℕ) (old added new : List A) → new ≡ old ++ added → k ≤ length old
    → take k new ≡ take k old
front_same k old added new is le = ap (λ v. take k v) is ∙ take-append-le k old added le

pub longer_in : {A : Type 0} {a : A} {Q : A → Type 0} {old new : List A} → Adds Q old new → In a old → In a new
longer_in {a = a} adds h = subst (λ v. In a v) (sym adds.is) (in_left adds.added h)

pub size_map : {A B : Type 0} (f : A → B) (xs : List A) → length (map f xs) ≡ length xs
size_map f [] = refl
size_map f (y ∷ xs) = ap suc (size_map f xs)

module _ (flat : code_flat.Tables) where
  inside_begins : {h : ℕ} {p : DottedRule} → Inside flat h p → p.step < begin_count flat p.node
  inside_begins (begun lt) = lt
  inside_begins (called i call lt) = lt

  call_same : (a b : Item) → a.node ≡ b.node → a.step ≡ b.step → call_of flat a ≡ call_of flat b
  call_same a b n s = ap (λ v. called_by flat.targets.items (slice_get flat.nodes.items v) a.step) n
      ∙ ap (λ v. called_by flat.targets.items (slice_get flat.nodes.items b.node) v) s

  full_keeps : (j : ℕ) (predictions predictions' : List ℕ) (items items' : List Item)
      → ((h : ℕ) → In h predictions → In h predictions')
      → ((a : Item) → In a items → In a items') →
      Keeps (full (closure_of flat) j predictions items) (full (closure_of flat) j predictions' items')
  full_keeps j predictions predictions' items items' more more' a h = by
      (in_either (expand (closure_of flat) j predictions) h)
    where
      by : In a (expand (closure_of flat) j predictions) ⊎ In a items
          → In a (full (closure_of flat) j predictions' items')
      by (inl g) =
          let e = from_expand (closure_of flat) j predictions a g in
          in_left items' (subst (λ v. In v (expand (closure_of flat) j predictions')) (sym e.is)
          (in_expand (closure_of flat) j e.prediction predictions' e.dot (more e.prediction e.stands) e.lies))
      by (inr g) = in_right (expand (closure_of flat) j predictions') (more' a g)

module _ (flat : code_flat.Tables) (targets : GiveTargets (flat_of flat) flat.targets.items)
    (nulls : AreNulls (flat_of flat) flat.nulls.items) (tables : AreTables flat)
    (x : List ℕ) (sets : List (List Item)) (earlier : HoldAll (flat_of flat) x sets) where
  late_moves : (item : Item) (t l : ℕ) → call_of flat item ≡ Some (t, l) → (l ≡ item.step → ⊥)
      → l < begin_count flat item.node → ⊥
  late_moves item t l call = calls_late flat (called_of flat targets item t l call).calls

  target_below : (item : Item) (t l : ℕ) → call_of flat item ≡ Some (t, l) → t < length flat.nodes.items
  target_below item t l call =
      let stands = target_stands (called_of flat targets item t l call).rooted in
      let lt = get_below (flat_of flat).nodes t stands.1 in
      subst (λ v. t < v) (size_map node_of flat.nodes.items) lt

  asked_predicted : (item : Item) (t l k : ℕ) → Holds (flat_of flat) x (length sets) (at item.node item.step)
      item.origin → call_of flat item ≡ Some (t, l) → k < begin_count flat t →
      Holds (flat_of flat) x (length sets) (at t k) (length sets)
  asked_predicted item t l k h call lt =
      predicted_holds flat targets x sets [] earlier (none_hold flat targets nulls x sets earlier) item
      (record { node = t; step = k; origin = length sets }) h
      (record { target = t; next = l; call = call; begun = (refl, lt, refl) })

  on_begins : (item a : Item) → MovesOverNullable flat item a → a.step < begin_count flat a.node → ⊥
  on_begins item a o lt = late_moves item o.passed.target a.step o.passed.call o.moves
      (subst (λ v. a.step < begin_count flat v) o.passed.node lt)

  completed_late : (item a : Item) → IsCompleted flat sets [] item a → IsLate flat a
  completed_late item a c = by (equal_or a.step c.advanced.from.step)
    where
      by : (a.step ≡ c.advanced.from.step) ⊎ (a.step ≡ c.advanced.from.step → ⊥) → IsLate flat a
      by (inl same) = inr (item.node, call_same flat a c.advanced.from c.advanced.node same ∙ c.advanced.call)
      by (inr moves) = inl (λ lt. late_moves c.advanced.from item.node a.step c.advanced.call moves
          (subst (λ v. a.step < begin_count flat v) c.advanced.node lt))

  completed_beside : (item a : Item) → IsCompleted flat sets [] item a → a.origin ≡ length sets → ⊥
  completed_beside item a c same = by (slice_get sets item.origin) refl c.advanced.stands
    where
      by : (o : Option (List Item)) → slice_get sets item.origin ≡ o → In c.advanced.from (waiting_or [] o) → ⊥
      by None is h = elim h [ ]
      by (Some set) is h =
          let one = holds_origin (flat_of flat) (earlier item.origin set is c.advanced.from h) in
          let two = get_below sets item.origin is in
          let origin = c.advanced.origin in
          absurd (omega (arith, one, two, origin, same))

  further_late : (item a : Item) → IsAddedFor flat sets item a → IsLate flat a
  further_late item a (inl o) = inl (on_begins item a o)
  further_late item a (inr c) = completed_late item a c

  further_beside : (item a : Item) → IsAddedFor flat sets item a → a.origin ≡ length sets
      → a.step < begin_count flat a.node → ⊥
  further_beside item a (inl o) same lt = on_begins item a o lt
  further_beside item a (inr c) same lt = completed_beside item a c same

  -- who waits in an earlier set
  waits_early : (o : ℕ) (found : Option (List Item)) {b : Item} → slice_get sets o ≡ found → In b (waiting_or [] found)
      → o < length sets
  waits_early o None is h = elim h [ ]
  waits_early o (Some set) is h = get_below sets o is

  further_holds : (item a : Item) → Holds (flat_of flat) x (length sets) (at item.node item.step) item.origin
      → IsAddedFor flat sets item a →
      Holds (flat_of flat) x (length sets) (at a.node a.step) a.origin
  further_holds item a h (inl o) = passed_holds flat targets nulls x sets earlier item a h o.passed
  further_holds item a h (inr c) = completed_holds flat targets x sets [] earlier
      (none_hold flat targets nulls x sets earlier) item a h c
      (λ t. waits_early item.origin (slice_get sets item.origin) refl c.advanced.stands)

  module _ (ii hi : ℕ) (predictions : List ℕ) (items : List Item)
      (g : IsWorklist flat x sets ii hi predictions items) where
    dot_holds : (h : ℕ) (p : DottedRule) → In h predictions → In p (closure_of flat h).dots
        → Holds (flat_of flat) x (length sets) (at p.node p.step) (length sets)
    dot_holds h p at_h lies = inside_holds flat targets x sets earlier h (g.predicted h at_h)
        ((tables.closure h (g.are_predictions h at_h)).inside p lies)

    pub full_held : Hold (flat_of flat) x (length sets) (full (closure_of flat) (length sets) predictions items)
    full_held a h = by (in_either (expand (closure_of flat) (length sets) predictions) h)
      where
        by : In a (expand (closure_of flat) (length sets) predictions) ⊎ In a items
            → Holds (flat_of flat) x (length sets) (at a.node a.step) a.origin
        by (inl i) =
            let e = from_expand (closure_of flat) (length sets) predictions a i in
            subst (λ v. Holds (flat_of flat) x (length sets) (at v.node v.step) v.origin) (sym e.is)
            (dot_holds e.prediction e.dot e.stands e.lies)
        by (inr i) = g.held a i

    are_closures : AreClosures flat (closure_of flat) predictions
    are_closures = record {
      closure = λ h at_h. tables.closure h (g.are_predictions h at_h);
      apart = λ a b at_a at_b. tables.apart a b (g.are_predictions a at_a) (g.are_predictions b at_b);
    }

    pub all_different : AreDifferent (full (closure_of flat) (length sets) predictions items)
    all_different = full_different flat (closure_of flat)
        (length sets) predictions items are_closures g.predictions_different
        g.items_different apart
      where
        apart : (a : Item) → In a (expand (closure_of flat) (length sets) predictions) → In a items → ⊥
        apart a i h =
            let e = from_expand (closure_of flat) (length sets) predictions a i in
            let begins = inside_begins flat
            ((tables.closure e.prediction (g.are_predictions e.prediction e.stands)).inside e.dot
            e.lies) in
            let lt : a.step < begin_count flat a.node = subst (λ v. v.step < begin_count flat v.node) (sym e.is)
            begins in
            g.beside a h (ap (λ v. v.origin) e.is) lt

    pub item_room : length items ≤ positions (flat_of flat).nodes * (length sets + 1)
    item_room = set_at_most (flat_of flat) x (length sets) items g.items_different g.held

    pub prediction_room : length predictions ≤ length flat.nodes.items
    prediction_room =
        let n = length_every (length flat.nodes.items) (λ k. k) in
        let le = at_most predictions (every (length flat.nodes.items) (λ k. k)) g.predictions_different
        (λ h at_h. in_every (length flat.nodes.items) h (λ k. k) (g.below h at_h)) in
        omega (arith, n, le)

    -- one item more
    module _ (d : Item) (predictions' : List ℕ) (items' : List Item) (below : ii < length items)
        (asked : Adds (IsPredictedTarget flat (slice_index_or items ii d)) predictions predictions')
        (further : Adds (IsAddedFor flat sets (slice_index_or items ii d)) items items') where
      this_held : Holds (flat_of flat) x (length sets)
          (at (slice_index_or items ii d).node (slice_index_or items ii d).step) (slice_index_or items ii d).origin
      this_held = g.held (slice_index_or items ii d) (at_index_in items ii d below)

      this_late : IsLate flat (slice_index_or items ii d)
      this_late = g.late (slice_index_or items ii d) (at_index_in items ii d below)

      keeps_full : Keeps (full (closure_of flat) (length sets) predictions items)
          (full (closure_of flat) (length sets) predictions' items')
      keeps_full = full_keeps flat (length sets) predictions predictions' items items' (λ h i. longer_in asked i)
          (λ a i. longer_in further i)

      this_worked : (b : Item) → IsWork flat sets (slice_index_or items ii d) b
          → In b (full (closure_of flat) (length sets) predictions' items')
      this_worked b (inl (inl p)) =
          let at_target = asked.all p.target (record { next = p.next; call = p.call }) in
          let prediction = tables.outer (slice_index_or items ii d) p.target p.next this_late p.call in
          let is = item_same b p.target b.step (length sets) p.begun.0 refl p.begun.2 in
          subst (λ v. In v (full (closure_of flat) (length sets) predictions' items')) (sym is)
          (in_left items' (in_expand (closure_of flat) (length sets) p.target predictions'
          (record { node = p.target; step = b.step }) at_target (prediction b.step p.begun.1)))
      this_worked b (inl (inr p)) = by (equal_or b.step (slice_index_or items ii d).step)
        where
          by : (b.step ≡ (slice_index_or items ii d).step) ⊎ (b.step ≡ (slice_index_or items ii d).step → ⊥)
              → In b (full (closure_of flat) (length sets) predictions' items')
          by (inl same) =
              let is = item_same b (slice_index_or items ii d).node (slice_index_or items ii d).step
              (slice_index_or items ii d).origin p.node same p.origin in
              in_right (expand (closure_of flat) (length sets) predictions')
              (longer_in further (subst (λ v. In v items) (sym is) (at_index_in items ii d below)))
          by (inr moves) = in_right (expand (closure_of flat) (length sets) predictions')
              (further.all b (inl (record { passed = p; moves = moves })))
      this_worked b (inr c) = in_right (expand (closure_of flat) (length sets) predictions') (further.all b (inr c))

      pub item_more : IsWorklist flat x sets (ii + 1) hi predictions' items'
      item_more = record {
        within_items = (let size = ap (λ v. length v) further.is ∙ length-append items further.added in
            omega (arith, below, size));
        within_predictions = (let size = ap (λ v. length v) asked.is ∙ length-append predictions asked.added in let le =
            g.within_predictions in omega (arith, le, size));
        predicted = λ h i. predicted h (asked.only h i);
        below = λ h i. under h (asked.only h i);
        are_predictions = λ h i. are h (asked.only h i);
        held = λ a i. held a (further.only a i);
        predictions_different = asked.different g.predictions_different;
        items_different = further.different g.items_different;
        late = λ a i. late a (further.only a i);
        beside = λ a i. beside a (further.only a i);
        worked = λ a i b w. worked a b (among_more a items ii d below (subst (λ v. In a v) front i)) w;
        opened = record {
          calls = λ h i t c. longer_in asked (g.opened.calls h (subst (λ v. In h v) same_predictions i) t c);
          passes = λ h i r p. keeps_full (item_at (length sets) r)
              (g.opened.passes h (subst (λ v. In h v) same_predictions i) r p);
        };
      }
        where
          front : take (ii + 1) items' ≡ take (suc ii) items
          front =
              let one : ii + 1 ≡ suc ii = omega arith in
              let le : ii + 1 ≤ length items = omega (arith, below) in
              front_same (ii + 1) items further.added items' further.is le ∙ ap (λ v. take v items) one

          same_predictions : take hi predictions' ≡ take hi predictions
          same_predictions = front_same hi predictions asked.added predictions' asked.is g.within_predictions

          predicted : (h : ℕ) → In h predictions ⊎ IsPredictedTarget flat (slice_index_or items ii d) h → (k : ℕ)
              → k < begin_count flat h → Holds (flat_of flat) x (length sets) (at h k) (length sets)
          predicted h (inl i) k lt = g.predicted h i k lt
          predicted h (inr a) k lt = asked_predicted (slice_index_or items ii d) h a.next k this_held a.call lt

          under : (h : ℕ) → In h predictions ⊎ IsPredictedTarget flat (slice_index_or items ii d) h
              → h < length flat.nodes.items
          under h (inl i) = g.below h i
          under h (inr a) = target_below (slice_index_or items ii d) h a.next a.call

          are : (h : ℕ) → In h predictions ⊎ IsPredictedTarget flat (slice_index_or items ii d) h → IsPrediction flat h
          are h (inl i) = g.are_predictions h i
          are h (inr a) = tables.outer (slice_index_or items ii d) h a.next this_late a.call

          held : (a : Item) → In a items ⊎ IsAddedFor flat sets (slice_index_or items ii d) a
              → Holds (flat_of flat) x (length sets) (at a.node a.step) a.origin
          held a (inl i) = g.held a i
          held a (inr f) = further_holds (slice_index_or items ii d) a this_held f

          late : (a : Item) → In a items ⊎ IsAddedFor flat sets (slice_index_or items ii d) a → IsLate flat a
          late a (inl i) = g.late a i
          late a (inr f) = further_late (slice_index_or items ii d) a f

          beside : (a : Item) → In a items ⊎ IsAddedFor flat sets (slice_index_or items ii d) a → a.origin ≡ length sets
              → a.step < begin_count flat a.node → ⊥
          beside a (inl i) = g.beside a i
          beside a (inr f) = further_beside (slice_index_or items ii d) a f

          worked : (a b : Item) → In a (take ii items) ⊎ (a ≡ slice_index_or items ii d) → IsWork flat sets a b
              → In b (full (closure_of flat) (length sets) predictions' items')
          worked a b (inl i) w = keeps_full b (g.worked a i b w)
          worked a b (inr same) w = this_worked b (subst (λ v. IsWork flat sets v b) same w)

    -- one prediction more
    module _ (d : ℕ) (predictions' : List ℕ) (items' : List Item) (below : hi < length predictions)
        (called_predictions : Adds
        (λ t. In t (closure_of flat (slice_index_or predictions hi d)).calls) predictions predictions')
        (passed_items : Adds (λ a. In a (map (item_at (length sets))
        (closure_of flat (slice_index_or predictions hi d)).passes)) items items') where
      at_this : In (slice_index_or predictions hi d) predictions
      at_this = at_index_in predictions hi d below

      this_closure : IsItemClosure flat (slice_index_or predictions hi d)
          (closure_of flat (slice_index_or predictions hi d))
      this_closure = tables.closure (slice_index_or predictions hi d)
          (g.are_predictions (slice_index_or predictions hi d) at_this)

      prediction_kept : Keeps (full (closure_of flat) (length sets) predictions items)
          (full (closure_of flat) (length sets) predictions' items')
      prediction_kept = full_keeps flat (length sets) predictions predictions' items items'
          (λ h i. longer_in called_predictions i)
          (λ a i. longer_in passed_items i)

      passed_holds_here : (r : DottedRule) → In r (closure_of flat (slice_index_or predictions hi d)).passes
          → Holds (flat_of flat) x (length sets) (at r.node r.step) (length sets)
      passed_holds_here r h =
          let p = this_closure.passes r h in
          let from = dot_holds (slice_index_or predictions hi d) p.from at_this p.stands in
          passed_holds flat targets nulls x sets earlier (item_at (length sets) p.from) (item_at (length sets) r) from
          (record { target = p.target; call = p.call; null = p.null; free = p.free; node = p.node; origin = refl })

      pub prediction_more : IsWorklist flat x sets ii (hi + 1) predictions' items'
      prediction_more = record {
        within_items = (let size = ap (λ v. length v) passed_items.is ∙ length-append items passed_items.added in
            let le = g.within_items in omega (arith, le, size));
        within_predictions = (let size = ap (λ v. length v) called_predictions.is
            ∙ length-append predictions called_predictions.added in
            omega (arith, below, size));
        predicted = λ h i. predicted h (called_predictions.only h i);
        below = λ h i. under h (called_predictions.only h i);
        are_predictions = λ h i. are h (called_predictions.only h i);
        held = λ a i. held a (passed_items.only a i);
        predictions_different = called_predictions.different g.predictions_different;
        items_different = passed_items.different g.items_different;
        late = λ a i. late a (passed_items.only a i);
        beside = λ a i. beside a (passed_items.only a i);
        worked = λ a i b w. prediction_kept b (g.worked a (subst (λ v. In a v) same_items i) b w);
        opened = record {
          calls = λ h i t c. calls_there h t (among_more h predictions hi d below (subst (λ v. In h v) front i)) c;
          passes = λ h i r p. passes_there h r (among_more h predictions hi d below (subst (λ v. In h v) front i)) p;
        };
      }
        where
          same_items : take ii items' ≡ take ii items
          same_items = front_same ii items passed_items.added items' passed_items.is g.within_items

          front : take (hi + 1) predictions' ≡ take (suc hi) predictions
          front =
              let one : hi + 1 ≡ suc hi = omega arith in
              let le : hi + 1 ≤ length predictions = omega (arith, below) in
              front_same (hi + 1) predictions called_predictions.added predictions' called_predictions.is le
              ∙ ap (λ v. take v predictions) one

          predicted : (h : ℕ) → In h predictions ⊎ In h (closure_of flat (slice_index_or predictions hi d)).calls
              → (k : ℕ)
              → k < begin_count flat h → Holds (flat_of flat) x (length sets) (at h k) (length sets)
          predicted h (inl i) k lt = g.predicted h i k lt
          predicted h (inr c) k lt =
              let p = this_closure.calls h c in
              asked_predicted (item_at (length sets) p.from) h p.next k
              (dot_holds (slice_index_or predictions hi d) p.from at_this p.stands) p.call lt

          under : (h : ℕ) → In h predictions ⊎ In h (closure_of flat (slice_index_or predictions hi d)).calls
              → h < length flat.nodes.items
          under h (inl i) = g.below h i
          under h (inr c) = let p = this_closure.calls h c in target_below
              (item_at (length sets) p.from) h p.next p.call

          are : (h : ℕ) → In h predictions ⊎ In h (closure_of flat (slice_index_or predictions hi d)).calls
              → IsPrediction flat h
          are h (inl i) = g.are_predictions h i
          are h (inr c) = tables.inlined (slice_index_or predictions hi d) h
              (g.are_predictions (slice_index_or predictions hi d) at_this) c

          held : (a : Item) → In a items ⊎ In a (map (item_at (length sets))
              (closure_of flat (slice_index_or predictions hi d)).passes)
              → Holds (flat_of flat) x (length sets) (at a.node a.step) a.origin
          held a (inl i) = g.held a i
          held a (inr m) =
              let f = from_map (length sets) a (closure_of flat (slice_index_or predictions hi d)).passes m in
              subst (λ v. Holds (flat_of flat) x (length sets) (at v.node v.step) v.origin) (sym f.is)
              (passed_holds_here f.dot f.stands)

          begins_not : (a : Item) → In a (map (item_at (length sets))
              (closure_of flat (slice_index_or predictions hi d)).passes) → a.step < begin_count flat a.node → ⊥
          begins_not a m lt =
              let f = from_map (length sets) a (closure_of flat (slice_index_or predictions hi d)).passes m in
              this_closure.late f.dot f.stands (subst (λ v. v.step < begin_count flat v.node) f.is lt)

          late : (a : Item) → In a items ⊎ In a (map (item_at (length sets))
              (closure_of flat (slice_index_or predictions hi d)).passes) → IsLate flat a
          late a (inl i) = g.late a i
          late a (inr m) = inl (begins_not a m)

          beside : (a : Item) → In a items ⊎ In a (map (item_at (length sets))
              (closure_of flat (slice_index_or predictions hi d)).passes) → a.origin ≡ length sets
              → a.step < begin_count flat a.node → ⊥
          beside a (inl i) = g.beside a i
          beside a (inr m) = λ same. begins_not a m

          calls_there : (h t : ℕ) → In h (take hi predictions) ⊎ (h ≡ slice_index_or predictions hi d)
              → In t (closure_of flat h).calls → In t predictions'
          calls_there h t (inl i) c = longer_in called_predictions (g.opened.calls h i t c)
          calls_there h t (inr same) c = called_predictions.all t (subst (λ v. In t (closure_of flat v).calls) same c)

          passes_there : (h : ℕ) (r : DottedRule) → In h (take hi predictions) ⊎ (h ≡ slice_index_or predictions hi d)
              → In r (closure_of flat h).passes →
              In (item_at (length sets) r) (full (closure_of flat) (length sets) predictions' items')
          passes_there h r (inl i) p = prediction_kept (item_at (length sets) r) (g.opened.passes h i r p)
          passes_there h r (inr same) p =
              in_right (expand (closure_of flat) (length sets) predictions')
              (passed_items.all (item_at (length sets) r)
              (in_map (length sets) r (closure_of flat (slice_index_or predictions hi d)).passes
              (subst (λ v. In r (closure_of flat v).passes) same p)))

    -- nothing is left to do
    pub all_closed : length items ≤ ii → length predictions ≤ hi → slice_get sets (length sets) ≡ None
        → IsClosed flat sets (full (closure_of flat) (length sets) predictions items)
    all_closed items_done predictions_done none =
        worked_closed flat targets nulls x sets earlier
        (full (closure_of flat) (length sets) predictions items) full_held worked
      where
        worked : IsWorked flat sets (full (closure_of flat) (length sets) predictions items)
            (full (closure_of flat) (length sets) predictions items)
        worked a h b w = by (in_either (expand (closure_of flat) (length sets) predictions) h)
          where
            by : In a (expand (closure_of flat) (length sets) predictions) ⊎ In a items
                → In b (full (closure_of flat) (length sets) predictions items)
            by (inl i) = closures_worked flat (closure_of flat) sets predictions predictions items none are_closures
                (λ h i. i)
                (record {
                  calls = λ h i. g.opened.calls h (in_front h predictions hi predictions_done i);
                  passes = λ h i. g.opened.passes h (in_front h predictions hi predictions_done i);
                }) a i b w
            by (inr i) = g.worked a (in_front a items ii items_done i) b w

  -- the measure
  pub measure_falls : (ii hi ii' hi' : ℕ) (predictions : List ℕ) (items : List Item)
      → IsWorklist flat x sets ii hi predictions
      items
      → ii + hi < ii' + hi' → (ii < length items) ⊎ (hi < length predictions) →
      positions (flat_of flat).nodes * (length sets + 1) + length flat.nodes.items - (ii' + hi')
      < positions (flat_of flat).nodes * (length sets + 1) + length flat.nodes.items - (ii + hi)
  measure_falls ii hi ii' hi' predictions items g more some =
      let one = item_room ii hi predictions items g in
      let two = prediction_room ii hi predictions items g in
      let three = g.within_items in
      let four = g.within_predictions in
      by some (λ lt. omega (arith, one, two, three, four, more, lt))
      (λ lt. omega (arith, one, two, three, four, more, lt))
    where
      by : {A : Type 0} → (ii < length items) ⊎ (hi < length predictions) → (ii < length items → A)
          → (hi < length predictions → A) → A
      by (inl lt) f h = f lt
      by (inr lt) f h = h lt

  pub more_keeps : (j : ℕ) (predictions predictions' : List ℕ)
      (items items' : List Item) {P : ℕ → Type 0} {Q : Item → Type 0}
      → Adds P predictions predictions' → Adds Q items items' →
      Keeps (full (closure_of flat) j predictions items) (full (closure_of flat) j predictions' items')
  more_keeps j predictions predictions' items items' p q = full_keeps flat j predictions predictions' items items'
      (λ h i. longer_in p i)
      (λ a i. longer_in q i)
