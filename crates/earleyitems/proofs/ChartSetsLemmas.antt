-- The sets of a chart are the item sets of its line.
-- Serves: judge, Chart::items.
use Rattle.std.proofs.Common.{◌≡◌, ℕ, zero, suc, ◌+◌, ◌*◌, ◌<◌, ◌≤◌, ◌⊎◌, inl, inr, Option, Some, None, List, [], ◌∷◌}
use Rattle.std.proofs.Common.{◌++◌, length, length-append, map, take, slice_get, slice_index_or, refl, sym, ◌∙◌, ap}
use Rattle.std.proofs.Common.{subst, arith, ⊎_elim, Global}
use Rattle.std.proofs.lemmas.List.{length-map}
use Rattle.std.proofs.lemmas.List.Sums.{sum_by-cons, sum_by_push}
use Rattle.std.specs.Prelude.{sum_by}
use Rattle.std.specs.declared.rc.Rc.{Rc}
use Rattle.flatgrammar.specs.Flat.{Flat, Dot, at}
use Rattle.flatgrammar.specs.Holds.{Holds, begins, called, has_read, returned}
use Rattle.flatgrammar.specs.Positions.{In, now, on, positions}
use Rattle.flatgrammar.specs.declared.flat_item.Item.{Item}
use Rattle.earleyitems.specs.EarleySets.{EarleySet}
use Rattle.flatgrammar.specs.declared.tables.Tables as code_flat
use Rattle.flatgrammar.specs.NodeSteps.{flat_of}
use Rattle.earleyitems.specs.Charts.{item_of, IsExact, IsExactSet}
use Rattle.earleyitems.specs.ChartSets.{pair, chart_of, set_at, IsSet, AreSized, HaveMoreItems}
use Rattle.flatgrammar.specs.declared.closure.DottedRule.{DottedRule}
use Rattle.flatgrammar.specs.ItemClosures.{ItemClosure, item_at, closure_of}
use Rattle.earleyitems.specs.SetViews.{expand, full, view, views}
use Rattle.flatgrammar.proofs.SliceGetLemmas.{get_below}
use Rattle.flatgrammar.proofs.SliceGetLemmas.{push_cases}
use Rattle.earleyitems.proofs.ExpandLemmas.{get_views, length_views, take_one, expand_end}
use Rattle.flatgrammar.proofs.PositionsLemmas.{items_at_most}
use Rattle.earleyitems.proofs.SetAtMostLemmas.{From, in_map, different_map}
use Rattle.earleyitems.proofs.ViewsLemmas.{views_more}

-- no set lies past the line's end
pub holds_within : {flat : Flat} {x : List ℕ} {j i : ℕ} {p : Dot} → Holds flat x j p i → j ≤ length x
holds_within (begins st) = omega arith
holds_within (called h c st) = holds_within h
holds_within {x = x} (has_read {j = j} h r letter lies) = let lt = get_below x j letter in omega (arith, lt)
holds_within (returned h e g c takes) = holds_within h

pub index_map : {A B : Type 0} (f : A → B) (xs : List A) (j : ℕ) (a : A) (d : B) → slice_get xs j ≡ Some a
    → slice_index_or (map f xs) j d ≡ f a
index_map f [] j a d is = absurd (cc is)
index_map f (x ∷ xs) zero a d is = let same : x ≡ a = cc is in ap f same
index_map f (x ∷ xs) (suc j) a d is = index_map f xs j a d is

pub index_past : {A B : Type 0} (f : A → B) (xs : List A) (j : ℕ) (d : B) → length xs ≤ j
    → slice_index_or (map f xs) j d ≡ d
index_past f [] j d le = refl
index_past f (x ∷ xs) zero d le = absurd (omega (arith, le))
index_past f (x ∷ xs) (suc j) d le = index_past f xs j d (omega (arith, le))

there_or_past : {A : Type 0} (xs : List A) (j : ℕ) → ((a : A) × (slice_get xs j ≡ Some a)) ⊎ (length xs ≤ j)
there_or_past [] j = inr (omega arith)
there_or_past (x ∷ xs) zero = inl (x, refl)
there_or_past (x ∷ xs) (suc j) = ⊎_elim (λ h. inl h) (λ le. inr (omega (arith, le))) (there_or_past xs j)

pair_stands : (a : Item) (set : List Item) → In a set → In (pair a) (map pair set)
pair_stands a [] h = elim h [ ]
pair_stands a (b ∷ set) (now same) = now (ap pair same)
pair_stands a (b ∷ set) (on h) = on (pair_stands a set h)

module _ (tables : code_flat.Tables) (x : List ℕ) where
  filled_set : (j : ℕ) (set : List Item) → IsExactSet tables x j set → IsSet (flat_of tables) x j (map pair set)
  filled_set j set e = record {
    held = λ p i h. held p i (in_map (p, i) set h);
    all = λ p i h. all p i (e.all p i h);
    different = different_map set e.different;
  }
    where
      held : (p : Dot) (i : ℕ) → From (p, i) set → Holds (flat_of tables) x j p i
      held p i f =
          let position : p ≡ at f.item.node f.item.step = ap (λ v. v.0) f.is in
          let origin : i ≡ f.item.origin = ap (λ v. v.1) f.is in
          subst (λ v. Holds (flat_of tables) x j v i) (sym position)
          (subst (λ v. Holds (flat_of tables) x j (at f.item.node f.item.step) v) (sym origin)
          (e.held f.item f.stands))

      all : (p : Dot) (i : ℕ) → In (item_of p i) set → In {A = Dot × ℕ} (p, i) (map pair set)
      all (at s k) i h = pair_stands (record { node = s; step = k; origin = i }) set h

-- some sets of a line that have more items than that
pub more_items : (tables : code_flat.Tables) (x : List ℕ) (kept_sets : List EarleySet) (most : ℕ)
    → IsExact tables x (views tables 0 kept_sets)
    → most < sum_by (λ set. length set) (views tables 0 kept_sets) → HaveMoreItems (flat_of tables) x most
more_items tables x kept_sets most exact more = record {
  sets = map (λ set. map pair set) (views tables 0 kept_sets);
  are_sets = λ j set is.
      let from = mapped_set (views tables 0 kept_sets) j set is in
      subst (λ v. IsSet (flat_of tables) x j v) from.2 (filled_set tables x j from.0 (exact j from.0 from.1));
  more = (let same = sizes_kept (views tables 0 kept_sets) in omega (arith, same, more));
}
  where
    mapped_set : (sets : List (List Item)) (j : ℕ) (set : List (Dot × ℕ))
        → slice_get (map (λ set. map pair set) sets) j ≡ Some set
        → (items : List Item) × (slice_get sets j ≡ Some items) × (map pair items ≡ set)
    mapped_set [] j set is = absurd (cc is)
    mapped_set (s ∷ sets) zero set is = (s, refl, cc is)
    mapped_set (s ∷ sets) (suc j) set is = mapped_set sets j set is

    sizes_kept : (sets : List (List Item))
        → sum_by (λ set. length set) (map (λ set. map pair set) sets) ≡ sum_by (λ set. length set) sets
    sizes_kept [] = refl
    sizes_kept (s ∷ sets) =
        let here = length-map s pair in
        let rest = sizes_kept sets in
        let one = sum_by-cons (λ (set : List (Dot × ℕ)). length set) (map pair s) (map (λ set. map pair set) sets) in
        let two = sum_by-cons (λ (set : List Item). length set) s sets in
        omega (arith, here, rest, one, two)

-- one set more has at least its items beside the closures
pub counted_push : (tables : code_flat.Tables) (kept_sets : List EarleySet) (kept_set : EarleySet) (items : List Item)
    (beside count : ℕ) → kept_set.items ≡ items
    → beside ≤ sum_by (λ set. length set) (views tables 0 kept_sets) → count ≤ beside + length items
    → count ≤ sum_by (λ set. length set) (views tables 0 (kept_sets ++ kept_set ∷ []))
counted_push tables kept_sets kept_set items beside count is before le =
    let position = 0 + length kept_sets in
    let more = ap (λ (vs : List (List Item)). sum_by (λ set. length set) vs)
    (views_more tables 0 kept_sets kept_set)
    ∙ sum_by_push (λ (set : List Item). length set) (views tables 0 kept_sets) (view tables position kept_set) in
    let long = length-append (expand (closure_of tables) position kept_set.predictions) kept_set.items in
    let same = ap (λ (l : List Item). length l) is in
    omega (arith, more, long, same, before, le)

module _ (tables : code_flat.Tables) (x : List ℕ) (sets : List (List Item)) (size : length sets ≡ length x + 1)
    (exact : IsExact tables x sets) where
  no_set : (j : ℕ) → length x + 1 ≤ j → IsSet (flat_of tables) x j []
  no_set j past = record {
    held = λ p i h. nobody p i h;
    all = λ p i h. let le = holds_within h in absurd (omega (arith, le, past));
    different = tt;
  }
    where
      nobody : (p : Dot) (i : ℕ) → In {A = Dot × ℕ} (p, i) [] → Holds (flat_of tables) x j p i
      nobody p i h = elim h [ ]

  pub chart_sets : (j : ℕ) → IsSet (flat_of tables) x j (set_at (map (λ set. map pair set) sets) j)
  chart_sets j = ⊎_elim
      (λ h. subst (λ v. IsSet (flat_of tables) x j v) (sym (index_map (λ set. map pair set) sets j h.0 [] h.1))
      (filled_set tables x j h.0 (exact j h.0 h.1)))
      (λ past. subst (λ v. IsSet (flat_of tables) x j v) (sym (index_past (λ set. map pair set) sets j [] past))
      (no_set j (omega (arith, past, size))))
      (there_or_past sets j)

pub chart_set : (tables : code_flat.Tables) (x : List ℕ) (kept_sets : List EarleySet)
    → length kept_sets ≡ length x + 1 → IsExact tables x (views tables 0 kept_sets)
    → (j : ℕ) → IsSet (flat_of tables) x j (set_at (map (λ set. map pair set) (views tables 0 kept_sets)) j)
chart_set tables x kept_sets size exact j =
    chart_sets tables x (views tables 0 kept_sets) (length_views tables 0 kept_sets ∙ size) exact j

pub set_bound : (flat : Flat) (x : List ℕ) (j : ℕ) (set : List (Dot × ℕ)) → IsSet flat x j set
    → length set ≤ positions flat.nodes * (j + 1)
set_bound flat x j set e = items_at_most flat x j set e.different e.held

-- sizes
size_at : (tables : code_flat.Tables) (kept_sets : List EarleySet) (j : ℕ) (f : EarleySet)
    → slice_get kept_sets j ≡ Some f
    → f.size ≡ length (view tables j f) →
    f.size ≡ length (set_at (map (λ set. map pair set) (views tables 0 kept_sets)) j)
size_at tables kept_sets j f is same =
    let zero_is : 0 + j ≡ j = omega arith in
    let there = get_views tables 0 kept_sets j f is ∙ ap (λ v. Some (view tables v f)) zero_is in
    same ∙ (sym (length-map (view tables j f) pair)
    ∙ ap (λ v. length v) (sym (index_map (λ set. map pair set) (views tables 0 kept_sets) j (view tables j f) []
    there)))

pub are_sized : (tables : Rc code_flat.Tables Global) (kept_sets : List EarleySet)
    → ((j : ℕ) (f : EarleySet) → slice_get kept_sets j ≡ Some f → f.size ≡ length (view tables.value j f)) →
    AreSized (Some tables) kept_sets
are_sized tables kept_sets same = record { size = λ j f is. size_at tables.value kept_sets j f is (same j f is) }

pub none_sized : (tables : Option (Rc code_flat.Tables Global)) (kept_sets : List EarleySet) → kept_sets ≡ []
    → AreSized tables kept_sets
none_sized tables kept_sets none = rw none (record { size = λ j f is. absurd (cc is) })

-- the size of a set that is there, and of one that is not
pub size_past : (tables : Option (Rc code_flat.Tables Global)) (kept_sets : List EarleySet) (j : ℕ)
    → length kept_sets ≤ j
    → length (set_at (chart_of tables kept_sets) j) ≡ 0
size_past None kept_sets j le = refl
size_past (Some t) kept_sets j le =
    let count = length_views t.value 0 kept_sets in
    ap (λ v. length v) (index_past (λ set. map pair set) (views t.value 0 kept_sets) j [] (omega (arith, le, count)))

-- one set more
pub sized_push : (tables : code_flat.Tables) (kept_sets : List EarleySet) (kept_set : EarleySet)
    → ((j : ℕ) (f : EarleySet) → slice_get kept_sets j ≡ Some f → f.size ≡ length (view tables j f)) →
    ((j : ℕ) → kept_set.size ≡ length (view tables j kept_set)) → (j : ℕ) (f : EarleySet)
    → slice_get (kept_sets ++ kept_set ∷ []) j
    ≡ Some f → f.size ≡ length (view tables j f)
sized_push tables kept_sets kept_set all last j f is =
    ⊎_elim (λ was. all j f was) (λ h. subst (λ v. v.size ≡ length (view tables j v)) h.1 (last j))
    (push_cases kept_sets kept_set j f is)

-- one closure more
pub size_more : (closures : ℕ → ItemClosure) (j : ℕ) (predictions : List ℕ) (k d : ℕ) (dots : List DottedRule)
    → k < length predictions
    → dots ≡ (closures (slice_index_or predictions k d)).dots →
    length (expand closures j (take (k + 1) predictions))
    ≡ length (expand closures j (take k predictions)) + length dots
size_more closures j predictions k d dots lt is =
    ap (λ v. length (expand closures j v)) (take_one predictions k d lt) ∙
    (ap (λ v. length v) (expand_end closures j (take k predictions) (slice_index_or predictions k d)) ∙
    (length-append (expand closures j (take k predictions))
    (map (item_at j) (closures (slice_index_or predictions k d)).dots) ∙
    ap (λ v. length (expand closures j (take k predictions)) + v)
    (length-map (closures (slice_index_or predictions k d)).dots (item_at j) ∙ ap (λ v. length v) (sym is))))

pub size_here : (tables : code_flat.Tables) (j : ℕ) (hs : List ℕ) (is : List Item) (predictions : List ℕ)
    (items : List Item)
    (n : ℕ) → hs ≡ predictions → is ≡ items → n ≡ length (full (closure_of tables) j hs is) →
    n ≡ length (full (closure_of tables) j predictions items)
size_here tables j hs is predictions items n same other size =
    size ∙ (ap (λ v. length (full (closure_of tables) j v is)) same
    ∙ ap (λ v. length (full (closure_of tables) j predictions v))
    other)
