-- A chart of predictions and items, set by set.
-- Serves: judge.
use Rattle.std.proofs.Common.{◌≡◌, ℕ, suc, ◌+◌, ◌<◌, ◌≤◌, ◌⊎◌, inl, inr, Option, Some, None, List, [], ◌∷◌, ◌++◌}
use Rattle.std.proofs.Common.{length, map, take, slice_get, slice_index_or, refl, sym, ◌∙◌, ap, subst, arith}
use Rattle.flatgrammar.specs.Flat.{at}
use Rattle.flatgrammar.specs.Holds.{Holds, begins}
use Rattle.flatgrammar.specs.Positions.{In, AreDifferent}
use Rattle.flatgrammar.specs.declared.flat_item.Item.{Item}
use Rattle.earleyitems.specs.EarleySets.{EarleySet}
use Rattle.flatgrammar.specs.declared.flat_node.Node as code_node
use Rattle.flatgrammar.specs.declared.tables.Tables as code_flat
use Rattle.flatgrammar.specs.declared.flat_node.Node.TheVariants as vn
use Rattle.flatgrammar.specs.FlatViews.{node_of}
use Rattle.flatgrammar.specs.NodeSteps.{flat_of, IfSomeSet}
use Rattle.earleyitems.specs.ItemSets.{Adds}
use Rattle.flatgrammar.specs.TableViews.{count_in, read_in, GiveTargets, start_target, AreNulls}
use Rattle.earleyitems.specs.ScannedItems.{IsScannedItem}
use Rattle.earleyitems.specs.Closed.{Hold, IsClosed, Keeps}
use Rattle.earleyitems.specs.Charts.{IsFirst, IsAfter, IsBuilt}
use Rattle.flatgrammar.specs.declared.closure.DottedRule.{DottedRule}
use Rattle.flatgrammar.specs.ItemClosures.{item_at, ItemClosure, begin_count, closure_of, AreTables}
use Rattle.earleyitems.specs.SetViews.{expand, full, view, views, IsWorklist, IsWholeAt}
use Rattle.flatgrammar.proofs.CallOfLemmas.{begun_starts, target_stands, get_below, some_same}
use Rattle.earleyitems.proofs.IsBuiltLemmas.{after_holds, target_is, built_more}
use Rattle.earleyitems.proofs.ClosureLemmas.{in_expand, in_right, in_map, from_map, in_either}
use Rattle.flatgrammar.proofs.InLemmas.{in_left, before_end, at_index_in}
use Rattle.earleyitems.proofs.FillLemmas.{size_map}
use Rattle.earleyitems.proofs.ExpandLemmas.{length_views, take_one, take_past, map_end, expand_end}
use Rattle.earleyitems.proofs.AddsLemmas.{adds_as, adds_none}
use Rattle.earleyitems.proofs.ItemLemmas.{item_same}

pub views_more : (flat : code_flat.Tables) (j : ℕ) (kept_sets : List EarleySet) (kept_set : EarleySet)
    → views flat j (kept_sets ++ kept_set ∷ []) ≡ views flat j kept_sets ++ view flat (j + length kept_sets) kept_set
    ∷ []
views_more flat j [] kept_set = let z : j ≡ j + 0 = omega arith in ap (λ v. view flat v kept_set ∷ []) z
views_more flat j (f ∷ kept_sets) kept_set =
    let z : suc j + length kept_sets ≡ j + suc (length kept_sets) = omega arith in
    ap (λ v. view flat j f ∷ v) (views_more flat (suc j) kept_sets kept_set)
    ∙ ap (λ v. view flat j f ∷ (views flat (suc j) kept_sets ++ view flat v kept_set ∷ [])) z

-- what was read begins nothing
read_late : (flat : code_flat.Tables) (c k : ℕ) (o : Option code_node.Node) → IfSomeSet (read_in o k) c
    → k + 1 < count_in o → ⊥
read_late flat c k None h lt = elim h [ ]
read_late flat c k (Some (vn.Letters sets)) h lt = absurd (omega (arith, lt))
read_late flat c k (Some (vn.Concat ms)) h lt = elim h [ ]
read_late flat c k (Some (vn.Alt ms)) h lt = elim h [ ]
read_late flat c k (Some (vn.Rep a b m)) h lt = elim h [ ]
read_late flat c k (Some (vn.Iterations a b)) h lt = elim h [ ]
read_late flat c k (Some (vn.Opt m)) h lt = elim h [ ]
read_late flat c k (Some (vn.Name r)) h lt = elim h [ ]
read_late flat c k (Some vn.Nothing) h lt = elim h [ ]

after_late : (flat : code_flat.Tables) (x : List ℕ) (sets : List (List Item)) (a : Item) → IsAfter flat x sets a
    → a.step < begin_count flat a.node → ⊥
after_late flat x sets a h lt =
    let r = h.read in
    read_late flat h.letter r.by.step (slice_get flat.nodes.items r.by.node) r.reads
    (subst (λ v. v < begin_count flat r.by.node) r.step (subst (λ v. a.step < begin_count flat v) r.node lt))

module _ (flat : code_flat.Tables) (targets : GiveTargets (flat_of flat) flat.targets.items)
    (nulls : AreNulls (flat_of flat) flat.nulls.items) (tables : AreTables flat)
    (x : List ℕ) (sets : List (List Item)) (built : IsBuilt flat x sets) (predictions : List ℕ) (items : List Item)
    (begun : Adds (IsWholeAt flat (length sets)) [] predictions) (after : Adds (IsAfter flat x sets) [] items) where
  whole_at : (h : ℕ) → In h predictions → IsWholeAt flat (length sets) h
  whole_at h i = by (begun.only h i)
    where
      by : In h [] ⊎ IsWholeAt flat (length sets) h → IsWholeAt flat (length sets) h
      by (inl g) = elim g [ ]
      by (inr w) = w

  after_at : (a : Item) → In a items → IsAfter flat x sets a
  after_at a i = by (after.only a i)
    where
      by : In a [] ⊎ IsAfter flat x sets a → IsAfter flat x sets a
      by (inl g) = elim g [ ]
      by (inr w) = w

  nothing_in : {A B : Type 0} {a : A} → In a [] → B
  nothing_in h = elim h [ ]

  pub going_first : IsWorklist flat x sets 0 0 predictions items
  going_first = record {
    within_items = omega arith;
    within_predictions = omega arith;
    predicted = λ h i k lt. predicted h (whole_at h i) k lt;
    below = λ h i. below h (whole_at h i);
    are_predictions = λ h i. tables.whole h (whole_at h i).1;
    held = λ a i. after_holds flat targets x sets built.held a (after_at a i);
    predictions_different = begun.different tt;
    items_different = after.different tt;
    late = λ a i. inl (after_late flat x sets a (after_at a i));
    beside = λ a i same. after_late flat x sets a (after_at a i);
    worked = λ a i b w. nothing_in i;
    opened = record { calls = λ h i t c. nothing_in i; passes = λ h i r p. nothing_in i };
  }
    where
      predicted : (h : ℕ) → IsWholeAt flat (length sets) h → (k : ℕ) → k < begin_count flat h
          → Holds (flat_of flat) x (length sets) (at h k) (length sets)
      predicted h w k lt =
          let target = (targets flat.start h).0 (target_is flat targets x sets built.held
          (slice_get flat.targets.items flat.start) h w.1) in
          let made : Holds (flat_of flat) x 0 (at h k) 0 =
          begins (begun_starts flat targets h k flat.start (slice_get flat.nodes.items h) refl lt target) in
          subst (λ v. Holds (flat_of flat) x v (at h k) v) (sym w.0) made

      below : (h : ℕ) → IsWholeAt flat (length sets) h → h < length flat.nodes.items
      below h w =
          let target = (targets flat.start h).0 (target_is flat targets x sets built.held
          (slice_get flat.targets.items flat.start) h w.1) in
          let stands = target_stands target in
          subst (λ v. h < v) (size_map node_of flat.nodes.items) (get_below (flat_of flat).nodes h stands.1)

  first_in : (a : Item) → IsFirst flat x sets a → In a (full (closure_of flat) (length sets) predictions items)
  first_in a (inl w) =
      let at_target = begun.all w.1.target (w.0, w.1.is) in
      let dot = tables.whole w.1.target w.1.is a.step w.1.begun.1 in
      let is = item_same a w.1.target a.step (length sets) w.1.begun.0 refl (w.1.begun.2 ∙ sym w.0) in
      subst (λ v. In v (full (closure_of flat) (length sets) predictions items)) (sym is)
      (in_left items (in_expand (closure_of flat) (length sets) w.1.target predictions
      (record { node = w.1.target; step = a.step })
      at_target dot))
  first_in a (inr r) = in_right (expand (closure_of flat) (length sets) predictions) (after.all a r)

  pub set_built : (new : List Item) → Hold (flat_of flat) x (length sets) new → AreDifferent new
      → Keeps (full (closure_of flat) (length sets) predictions items) new → IsClosed flat sets new →
      IsBuilt flat x (sets ++ new ∷ [])
  set_built new hold different keeps closed = built_more flat targets x sets built new hold different closed
      (λ a f. keeps a (first_in a f))

pub begun_here : (flat : code_flat.Tables) (j target : ℕ) (old new : List ℕ) → j ≡ 0 → start_target flat ≡ Some target
    → Adds (λ t. t ≡ target) old new → Adds (IsWholeAt flat j) old new
begun_here flat j target old new none is p = adds_as (λ t. t ≡ target) (IsWholeAt flat j) old new
    (λ t h. (none, is ∙ ap Some (sym h))) (λ t w. some_same (sym w.1 ∙ is)) p

pub begun_not : (flat : code_flat.Tables) (j : ℕ) (old : List ℕ) → ((t : ℕ) → IsWholeAt flat j t → ⊥)
    → Adds (IsWholeAt flat j) old old
begun_not flat j old never = adds_none (IsWholeAt flat j) old (λ t w. absurd (never t w))

module _ (flat : code_flat.Tables) (x : List ℕ) (sets : List (List Item)) (old new : List Item) where
  pub after_last : (k c : ℕ) (last : List Item) → length sets ≡ k + 1 → slice_get sets k ≡ Some last
      → slice_get x k ≡ Some c → Adds (IsScannedItem flat c last) old new →
      Adds (IsAfter flat x sets) old new
  after_last k c last size set letter p = adds_as (IsScannedItem flat c last) (IsAfter flat x sets) old new
      (λ a r. record { at = k; letter = c; last = last; size = size; set = set; letter_is = letter; read = r })
      (λ a h. by a h) p
    where
      by : (a : Item) → IsAfter flat x sets a → IsScannedItem flat c last a
      by a h =
          let same : h.at ≡ k = omega (arith, h.size, size) in
          let one : h.last ≡ last = some_same (sym h.set ∙ (ap (λ v. slice_get sets v) same ∙ set)) in
          let two : h.letter ≡ c = some_same (sym h.letter_is ∙ (ap (λ v. slice_get x v) same ∙ letter)) in
          subst (λ v. IsScannedItem flat v last a) two (subst (λ v. IsScannedItem flat h.letter v a) one h.read)

  pub after_none : length sets ≡ 0 → Adds (IsAfter flat x sets) old old
  after_none none = adds_none (IsAfter flat x sets) old (λ a h. absurd (omega (arith, h.size, none)))

module _ (flat : code_flat.Tables) (targets : GiveTargets (flat_of flat) flat.targets.items)
    (nulls : AreNulls (flat_of flat) flat.nulls.items) (tables : AreTables flat)
    (x : List ℕ) (kept_sets : List EarleySet) (built : IsBuilt flat x (views flat 0 kept_sets))
    (number : ℕ) (is_number : number ≡ length kept_sets) (predictions : List ℕ) (items : List Item)
    (begun : Adds (IsWholeAt flat number) [] predictions)
    (after : Adds (IsAfter flat x (views flat 0 kept_sets)) [] items) where
  begun_there : Adds (IsWholeAt flat (length (views flat 0 kept_sets))) [] predictions
  begun_there = subst (λ v. Adds (IsWholeAt flat v) [] predictions)
      (is_number ∙ sym (length_views flat 0 kept_sets)) begun

  pub going_from : IsWorklist flat x (views flat 0 kept_sets) 0 0 predictions items
  going_from = going_first flat targets nulls tables x
      (views flat 0 kept_sets) built predictions items begun_there after

  built_from : (kept_set : EarleySet) → Hold (flat_of flat) x (length (views flat 0 kept_sets))
      (full (closure_of flat) (length (views flat 0 kept_sets)) kept_set.predictions kept_set.items) →
      AreDifferent (full (closure_of flat) (length (views flat 0 kept_sets)) kept_set.predictions kept_set.items) →
      Keeps (full (closure_of flat) (length (views flat 0 kept_sets)) predictions items)
      (full (closure_of flat) (length (views flat 0 kept_sets)) kept_set.predictions kept_set.items) →
      IsClosed flat (views flat 0 kept_sets)
      (full (closure_of flat) (length (views flat 0 kept_sets)) kept_set.predictions
      kept_set.items) → IsBuilt flat x (views flat 0 (kept_sets ++ kept_set ∷ []))
  built_from kept_set hold different keeps closed =
      let more = set_built flat targets nulls tables x
      (views flat 0 kept_sets) built predictions items begun_there after
      (full (closure_of flat) (length (views flat 0 kept_sets)) kept_set.predictions kept_set.items) hold different
      keeps
      closed in
      let count : length (views flat 0 kept_sets) ≡ 0 + length kept_sets =
      (let size = length_views flat 0 kept_sets in omega (arith, size)) in
      subst (λ v. IsBuilt flat x v) (sym (views_more flat 0 kept_sets kept_set))
      (subst (λ n. IsBuilt flat x
      (views flat 0 kept_sets ++ full (closure_of flat) n kept_set.predictions kept_set.items ∷ []))
      count more)

  pub built_by : (kept_set : EarleySet) (predictions' : List ℕ) (items' : List Item) → kept_set.predictions
      ≡ predictions'
      → kept_set.items ≡ items' →
      Hold (flat_of flat) x (length (views flat 0 kept_sets))
      (full (closure_of flat) (length (views flat 0 kept_sets)) predictions' items') →
      AreDifferent (full (closure_of flat) (length (views flat 0 kept_sets)) predictions' items') →
      Keeps (full (closure_of flat) (length (views flat 0 kept_sets)) predictions items)
      (full (closure_of flat) (length (views flat 0 kept_sets)) predictions' items') →
      IsClosed flat (views flat 0 kept_sets)
      (full (closure_of flat) (length (views flat 0 kept_sets)) predictions' items')
      → IsBuilt flat x (views flat 0 (kept_sets ++ kept_set ∷ []))
  built_by kept_set predictions' items' h i hold different keeps closed = built_from kept_set (rw (h, i) hold)
      (rw (h, i)
      different)
      (rw (h, i) keeps) (rw (h, i) closed)

-- looking for an item, one entry after another
not_more : (item : Item) (ws : List Item) (w : Item) → (In item ws → ⊥) → (item ≡ w → ⊥) → In item (ws ++ w ∷ []) → ⊥
not_more item ws w none differs h = by (before_end item w ws h)
  where
    by : In item ws ⊎ (item ≡ w) → ⊥
    by (inl g) = none g
    by (inr same) = differs same

pub dots_none : (j : ℕ) (item : Item) (dots : List DottedRule) (k : ℕ) (d : DottedRule) → k < length dots
    → (In item (map (item_at j) (take k dots)) → ⊥) → (item ≡ item_at j (slice_index_or dots k d) → ⊥) →
    In item (map (item_at j) (take (k + 1) dots)) → ⊥
dots_none j item dots k d lt none differs h =
    not_more item (map (item_at j) (take k dots)) (item_at j (slice_index_or dots k d)) none differs
    (subst (λ v. In item v) (ap (λ v. map (item_at j) v) (take_one dots k d lt)
    ∙ map_end (item_at j) (take k dots) (slice_index_or dots k d)) h)

pub dots_some : (j : ℕ) (item : Item) (dots : List DottedRule) (k : ℕ) (d : DottedRule) → k < length dots
    → item ≡ item_at j (slice_index_or dots k d) → In item (map (item_at j) dots)
dots_some j item dots k d lt same = subst (λ v. In v (map (item_at j) dots)) (sym same)
    (in_map j (slice_index_or dots k d) dots (at_index_in dots k d lt))

pub predictions_none : (closures : ℕ → ItemClosure) (j : ℕ) (item : Item) (predictions : List ℕ) (k d : ℕ)
    (dots : List DottedRule)
    → k < length predictions → dots ≡ (closures (slice_index_or predictions k d)).dots →
    (In item (expand closures j (take k predictions)) → ⊥) → (In item (map (item_at j) dots) → ⊥)
    → In item (expand closures j (take (k + 1) predictions)) → ⊥
predictions_none closures j item predictions k d dots lt is none differs h =
    by (in_either (expand closures j (take k predictions)) (subst (λ v. In item v)
    (ap (λ v. expand closures j v) (take_one predictions k d lt)
    ∙ expand_end closures j (take k predictions) (slice_index_or predictions k d)) h))
  where
    by : In item (expand closures j (take k predictions)) ⊎ In item
        (map (item_at j) (closures (slice_index_or predictions k d)).dots) → ⊥
    by (inl g) = none g
    by (inr g) = differs (subst (λ v. In item (map (item_at j) v)) (sym is) g)

pub predictions_some : (closures : ℕ → ItemClosure) (j : ℕ) (item : Item) (predictions : List ℕ) (k d : ℕ)
    (dots : List DottedRule)
    → k < length predictions → dots ≡ (closures (slice_index_or predictions k d)).dots →
    In item (map (item_at j) dots) → In item (expand closures j predictions)
predictions_some closures j item predictions k d dots lt is h =
    let f = from_map j item (closures (slice_index_or predictions k d)).dots
    (subst (λ v. In item (map (item_at j) v)) is h) in
    subst (λ v. In v (expand closures j predictions)) (sym f.is)
    (in_expand closures j (slice_index_or predictions k d) predictions f.dot (at_index_in predictions k d lt) f.stands)

pub predictions_all : (closures : ℕ → ItemClosure) (j : ℕ) (item : Item) (predictions : List ℕ) (k : ℕ)
    → length predictions ≤ k
    → (In item (expand closures j (take k predictions)) → ⊥) → In item (expand closures j predictions) → ⊥
predictions_all closures j item predictions k le none h = none
    (subst (λ v. In item (expand closures j v)) (sym (take_past predictions k le)) h)

pub dots_all : (j : ℕ) (item : Item) (dots : List DottedRule) (k : ℕ) → length dots ≤ k
    → (In item (map (item_at j) (take k dots)) → ⊥) → In item (map (item_at j) dots) → ⊥
dots_all j item dots k le none h = none (subst (λ v. In item (map (item_at j) v)) (sym (take_past dots k le)) h)
