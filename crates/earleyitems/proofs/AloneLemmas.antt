-- What goes on where a node is done that one dotted rule alone calls.
-- Serves: judge.
use Rattle.std.proofs.Common.{◌≡◌, ℕ, ◌+◌, ◌<◌, ◌⊎◌, inl, inr, Option, Some, None, List, slice_get, refl, sym, ◌∙◌, ap}
use Rattle.std.proofs.Common.{subst, arith}
use Rattle.flatgrammar.specs.Flat.{Node, Set, Dot, at, Reading, Reads, reads, Calls, calls}
use Rattle.flatgrammar.specs.Holds.{Holds, begins, called, has_read, returned}
use Rattle.flatgrammar.specs.FlatViews.{node_of}
use Rattle.flatgrammar.specs.NodeSteps as meaning
use Rattle.flatgrammar.specs.NodeSteps.{flat_of, callee}
use Rattle.flatgrammar.specs.declared.flat_item.Item.{Item}
use Rattle.flatgrammar.specs.declared.inlined.Inlined.{Inlined}
use Rattle.flatgrammar.specs.declared.tables.Tables as code_flat
use Rattle.flatgrammar.specs.TableViews.{target_in, rooted, called_by, call_of, count_in}
use Rattle.flatgrammar.specs.ItemClosures.{dot, item_at, begin_count, closure_of, IsAlone}
use Rattle.flatgrammar.proofs.CallOfLemmas.{some_same, equal_or, position_node, position_step, calling_callee}
use Rattle.flatgrammar.proofs.CallOfLemmas.{calls_late}
use Rattle.flatgrammar.proofs.CallOfLemmas.{get_unmap}
use Rattle.flatgrammar.proofs.InLemmas.{in_left}
use Rattle.earleyitems.specs.EarleySets.{EarleySet}
use Rattle.earleyitems.specs.Closed.{HoldAll}
use Rattle.earleyitems.specs.SetViews.{view, views}
use Rattle.earleyitems.specs.ItemSets.{Adds, IsAdvanced}
use Rattle.earleyitems.specs.Waiting.{BeginHere, BeginAll}
use Rattle.earleyitems.proofs.AddsLemmas.{adds_as}
use Rattle.earleyitems.proofs.ClosureLemmas.{in_expand}
use Rattle.earleyitems.proofs.ExpandLemmas.{get_views}
use Rattle.earleyitems.proofs.ItemLemmas.{item_same}
use Rattle.earleyitems.proofs.AreBucketsLemmas.{get_in}

module _ (flat : code_flat.Tables) where
  reading_late : {node : Node} {k l : ℕ} {set : Set} → Reading node k set l → l < meaning.begin_count node → ⊥
  reading_late (Reading.letter is) lt = absurd (omega (arith, lt))

  reads_late : {q r : Dot} {set : Set} → Reads (flat_of flat) q set r
      → position_step r < begin_count flat (position_node r) → ⊥
  reads_late (reads {s = s} {l = l} {node = node} is c) lt =
      let u = get_unmap node_of flat.nodes.items s node is in
      reading_late c (subst (λ v. l < meaning.begin_count v) u.is (subst (λ v. l < count_in v) u.at lt))

  calls_node : {q r : Dot} {s : ℕ} → Calls (flat_of flat) q s r → position_node r ≡ position_node q
  calls_node (calls is c) = refl

  position_same : (q r : Dot) → position_node q ≡ position_node r → position_step q ≡ position_step r → q ≡ r
  position_same (at n k) (at m l) node step = ap (λ v. at v k) node ∙ ap (λ v. at m v) step

  next_is : (o : Option (Option ℕ)) (m t l : ℕ) → target_in o m ≡ Some (t, l) → l ≡ m
  next_is None m t l h = absurd cc
  next_is (Some None) m t l h = absurd cc
  next_is (Some (Some r)) m t l h = sym (ap (λ v. v.1) (some_same h))

  -- the step after a call is that of the dotted rule after it
  calls_next : {q r : Dot} {s : ℕ} (t l i : ℕ) → Calls (flat_of flat) q s r
      → call_of flat (record { node = position_node q; step = position_step q; origin = i }) ≡ Some (t, l) → l
      ≡ position_step r
  calls_next t l i (calls {s = n} {k = k} {t = s} {l = m} {node = node} is c) call =
      let u = get_unmap node_of flat.nodes.items n node is in
      let here : rooted flat.targets.items (callee (node_of u.from) k) ≡ Some (t, l) =
      subst (λ v. called_by flat.targets.items v k ≡ Some (t, l)) u.at call in
      let there : rooted flat.targets.items (callee node k) ≡ Some (t, l) =
      subst (λ v. rooted flat.targets.items (callee v k) ≡ Some (t, l)) u.is here in
      next_is (slice_get flat.targets.items s) m t l (subst (λ v. rooted flat.targets.items v ≡ Some (t, l))
      (calling_callee c) there)

  begun_here : (x : List ℕ) {j i : ℕ} {p : Dot} → Holds (flat_of flat) x j p i
      → position_step p < begin_count flat (position_node p) →
      ((s : ℕ) → Calls (flat_of flat) p s p → ⊥) → i ≡ j
  begun_here x (begins st) lt never = refl
  begun_here x (called h c st) lt never = refl
  begun_here x (has_read h rd is has) lt never = absurd (reads_late rd lt)
  begun_here x (returned {s = s} {q = q} {r = r} h e w c later) lt never = by
      (equal_or (position_step r) (position_step q))
    where
      by : {i j : ℕ} → (position_step r ≡ position_step q) ⊎ (position_step r ≡ position_step q → ⊥) → i ≡ j
      by (inl same) = absurd (never s (subst (λ v. Calls (flat_of flat) v s r)
          (position_same q r (sym (calls_node c)) (sym same)) c))
      by (inr other) = absurd (calls_late flat c other
          (subst (λ v. position_step r < begin_count flat v) (calls_node c) lt))

  pub begin_all : (x : List ℕ) (kept_sets : List EarleySet) → HoldAll (flat_of flat) x (views flat 0 kept_sets)
      → BeginAll flat kept_sets
  begin_all x kept_sets earlier k f is a t l stands lt call moves =
      let z : 0 + k ≡ k = omega arith in
      let at_k = get_views flat 0 kept_sets k f is ∙ ap (λ v. Some (view flat v f)) z in
      begun_here x (earlier k (view flat k f) at_k a stands) lt (λ s c. moves (calls_next t l a.origin c call))

  -- where such a node is done, one dotted rule alone goes on
  pub alone_adds : (target : ℕ) (i : Inlined) (kept_set : EarleySet) (j hint : ℕ) (old new : List Item)
      → IsAlone flat target i
      → slice_get kept_set.predictions hint ≡ Some i.prediction →
      BeginHere flat j (view flat j kept_set) → Adds (λ a. a ≡ record { node = i.node; step = i.next; origin = j })
      old new
      → Adds (IsAdvanced flat target (view flat j kept_set)) old new
  alone_adds target i kept_set j hint old new one at_hint begun p =
      adds_as (λ a. a ≡ record { node = i.node; step = i.next; origin = j }) (IsAdvanced flat target (view flat j
      kept_set))
      old new
      (λ a h. record {
        from = item_at j (dot i.node i.step);
        stands = in_left kept_set.items
            (in_expand (closure_of flat) j i.prediction kept_set.predictions (dot i.node i.step)
            (get_in i.prediction kept_set.predictions hint at_hint) one.stands);
        call = one.call ∙ ap (λ v. Some (target, v)) (sym (ap (λ v. v.step) h));
        node = ap (λ v. v.node) h;
        origin = ap (λ v. v.origin) h;
      })
      (λ a r.
      let only = one.only r.from.node r.from.step a.step r.call in
      let here : call_of flat (item_at 0 (dot i.node i.step)) ≡ call_of flat r.from =
      ap (λ v. call_of flat (item_at 0 (dot v i.step))) only.0
      ∙ ap (λ v. call_of flat (item_at 0 (dot r.from.node v))) only.1 in
      let next : i.next ≡ a.step = ap (λ v. v.1) (some_same (sym one.call ∙ (here ∙ r.call))) in
      let lt : r.from.step < begin_count flat r.from.node =
      subst (λ v. r.from.step < begin_count flat v) only.0
      (subst (λ v. v < begin_count flat i.node) only.1 one.begins) in
      item_same a i.node i.next j (r.node ∙ sym only.0) (sym next)
      (r.origin ∙ begun r.from target a.step r.stands lt r.call (λ same. one.moves (next ∙ (same ∙ sym only.1))))) p
