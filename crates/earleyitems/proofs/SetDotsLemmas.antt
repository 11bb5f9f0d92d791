-- The dotted rules of a set's items.
-- Serves: Chart::dots
use Rattle.std.proofs.Common.{◌≡◌, ℕ, Bool, true, false, if◌then◌else◌, Option, Some, None, List, [], ◌∷◌, ◌++◌, map}
use Rattle.std.proofs.Common.{length, refl, Global, slice_get, sym, ◌∙◌, ap, subst, ◌≤◌, ◌<◌, arith, ◌+◌}
use Rattle.std.specs.Prelude.{nat_lt}
use Rattle.std.proofs.lemmas.Bool.Decides.{nat_tests}
use Rattle.std.proofs.lemmas.List.{map-append}
use Rattle.std.specs.List.{flat_map}
use Rattle.std.specs.declared.rc.Rc.{Rc}
use Rattle.flatgrammar.specs.ItemClosures.{closure_of, item_at, dot, ItemClosure}
use Rattle.flatgrammar.specs.Flat.{Dot, at}
use Rattle.flatgrammar.specs.Positions.{In, now, on}
use Rattle.flatgrammar.specs.declared.closure.DottedRule.{DottedRule}
use Rattle.flatgrammar.specs.declared.flat_item.Item.{Item}
use Rattle.flatgrammar.specs.declared.tables.Tables as code_flat
use Rattle.earleyitems.specs.ChartSets.{chart_of, older_dots, pair, set_at, AreDotsOf, AreOlderDotsOf, HasOlderDot}
use Rattle.earleyitems.specs.EarleySets.{EarleySet, predictions_of}
use Rattle.earleyitems.specs.SetViews.{expand, full, view, views}
use Rattle.earleyitems.specs.declared.sets.Record.{Record}
use Rattle.earleyitems.proofs.ChartSetsLemmas.{index_map, index_past}
use Rattle.earleyitems.proofs.ExpandLemmas.{get_views, length_views}

abbrev pub dot_of : Item → DottedRule
dot_of a = dot a.node a.step

abbrev node_at : Dot → ℕ
node_at (at s k) = s

abbrev step_at : Dot → ℕ
step_at (at s k) = k

-- a dotted rule with an item of the list
pub record IsDotOf (items : List Item) (s : DottedRule) : Type 0 where
  pub item : Item
  pub stands : In item items
  pub is : dot_of item ≡ s

-- the items of a set, and its pairs
pub pair_in : (items : List Item) (a : Item) → In a items → In (pair a) (map pair items)
pair_in [] a h = elim h [ ]
pair_in (b ∷ items) a (now same) = now (ap pair same)
pair_in (b ∷ items) a (on h) = on (pair_in items a h)

pub in_pairs : (items : List Item) (s : DottedRule) (i : ℕ) → In {A = Dot × ℕ} (at s.node s.step, i) (map pair items)
    → IsDotOf items s
in_pairs [] s i h = elim h [ ]
in_pairs (b ∷ items) s i (now same) =
    let position : at s.node s.step ≡ at b.node b.step = ap (λ v. v.0) same in
    let node : b.node ≡ s.node = sym (ap node_at position) in
    let step : b.step ≡ s.step = sym (ap step_at position) in
    record { item = b; stands = now refl; is = λ k. record { node = node k; step = step k } }
in_pairs (b ∷ items) s i (on h) = let f = in_pairs items s i h in
    record { item = f.item; stands = on f.stands; is = f.is }

pub in_pairs_at : (items : List Item) (s : DottedRule) (i : ℕ)
    → In {A = Dot × ℕ} (at s.node s.step, i) (map pair items) → (f : IsDotOf items s) × (f.item.origin ≡ i)
in_pairs_at [] s i h = elim h [ ]
in_pairs_at (b ∷ items) s i (now same) =
    let position : at s.node s.step ≡ at b.node b.step = ap (λ v. v.0) same in
    let node : b.node ≡ s.node = sym (ap node_at position) in
    let step : b.step ≡ s.step = sym (ap step_at position) in (
      record { item = b; stands = now refl; is = λ k. record { node = node k; step = step k } },
      sym (ap (λ v. v.1) same),
    )
in_pairs_at (b ∷ items) s i (on h) =
    let f = in_pairs_at items s i h in (record { item = f.0.item; stands = on f.0.stands; is = f.0.is }, f.1)

-- by lists
dots_in : (items : List Item) (s : DottedRule) → In s (map dot_of items) → IsDotOf items s
dots_in [] s h = elim h [ ]
dots_in (b ∷ items) s (now same) = record { item = b; stands = now refl; is = sym same }
dots_in (b ∷ items) s (on h) = let f = dots_in items s h in record { item = f.item; stands = on f.stands; is = f.is }

in_dots_of : (items : List Item) (a : Item) → In a items → In (dot_of a) (map dot_of items)
in_dots_of [] a h = elim h [ ]
in_dots_of (b ∷ items) a (now same) = now (ap dot_of same)
in_dots_of (b ∷ items) a (on h) = on (in_dots_of items a h)

-- the dotted rules of a set
back_map : (j : ℕ) (dots : List DottedRule) → map dot_of (map (item_at j) dots) ≡ dots
back_map j [] = refl
back_map j (s ∷ dots) = ap (λ v. s ∷ v) (back_map j dots)

predictions_dots : (tables : code_flat.Tables) (j : ℕ) (records : List Record)
    → flat_map (λ (r : Record). (closure_of tables r.prediction).dots) records
    ≡ map dot_of (expand (closure_of tables) j (predictions_of records))
predictions_dots tables j [] = refl
predictions_dots tables j (r ∷ records) =
    let here = (closure_of tables r.prediction).dots in
    let rest = expand (closure_of tables) j (predictions_of records) in
    ap (λ v. here ++ v) (predictions_dots tables j records)
    ∙ sym (map-append dot_of (map (item_at j) here) rest ∙ ap (λ v. v ++ map dot_of rest) (back_map j here))

pub dots_of_view : (tables : code_flat.Tables) (j : ℕ) (kept_set : EarleySet) (records : List Record)
    (items : List Item) (mid new : List DottedRule) → predictions_of records ≡ kept_set.predictions → items
    ≡ kept_set.items
    → mid ≡ flat_map (λ (r : Record). (closure_of tables r.prediction).dots) records
    → new ≡ mid ++ map dot_of items → new ≡ map dot_of (view tables j kept_set)
dots_of_view tables j kept_set records items mid new predictions same first next =
    let front = expand (closure_of tables) j kept_set.predictions in
    next
    ∙ ap (λ v. v ++ map dot_of items) (first ∙ predictions_dots tables j records
    ∙ ap (λ v. map dot_of (expand (closure_of tables) j v)) predictions)
    ∙ ap (λ v. map dot_of front ++ map dot_of v) same ∙ sym (map-append dot_of front kept_set.items)

dots_decide : (set : List Item) (dots : List DottedRule) → dots ≡ map dot_of set → AreDotsOf (map pair set) dots
dots_decide set dots are s = (
  λ h. let f = dots_in set s (subst (λ v. In s v) are h) in
      record {
        origin = f.item.origin;
        stands = subst (λ v. In {A = Dot × ℕ} (at v.node v.step, f.item.origin) (map pair set)) f.is
            (pair_in set f.item f.stands);
      },
  λ h. let f = in_pairs set s h.origin h.stands in
      subst (λ v. In s v) (sym are) (subst (λ v. In v (map dot_of set)) f.is (in_dots_of set f.item f.stands)),
)

module _ (o : Option (Rc code_flat.Tables Global)) (tables : Rc code_flat.Tables Global) (some : o ≡ Some tables)
    (kept_sets : List EarleySet) (j : ℕ) where
  pub view_dots : (f : EarleySet) (dots : List DottedRule) → slice_get kept_sets j ≡ Some f
      → dots ≡ map dot_of (view tables.value j f) → AreDotsOf (set_at (chart_of o kept_sets) j) dots
  view_dots f dots is are =
      let zero_is : 0 + j ≡ j = omega arith in
      let there = get_views tables.value 0 kept_sets j f is ∙ ap (λ v. Some (view tables.value v f)) zero_is in
      let same = index_map (λ set. map pair set) (views tables.value 0 kept_sets) j (view tables.value j f) [] there in
      subst (λ v. AreDotsOf (set_at (chart_of v kept_sets) j) dots) (sym some)
      (subst (λ v. AreDotsOf v dots) (sym same) (dots_decide (view tables.value j f) dots are))

  pub past_dots : (dots : List DottedRule) → dots ≡ [] → length kept_sets ≤ j
      → AreDotsOf (set_at (chart_of o kept_sets) j) dots
  past_dots dots none past =
      let long = length_views tables.value 0 kept_sets in
      let same = index_past (λ set. map pair set) (views tables.value 0 kept_sets) j [] (omega (arith, long, past)) in
      subst (λ v. AreDotsOf (set_at (chart_of v kept_sets) j) dots) (sym some)
      (subst (λ v. AreDotsOf v dots) (sym same) (dots_decide [] dots none))

pub no_tables_dots : (o : Option (Rc code_flat.Tables Global)) (kept_sets : List EarleySet) (j : ℕ)
    (dots : List DottedRule) → o ≡ None → dots ≡ [] → AreDotsOf (set_at (chart_of o kept_sets) j) dots
no_tables_dots o kept_sets j dots none is =
    subst (λ v. AreDotsOf (set_at (chart_of v kept_sets) j) dots) (sym none) (dots_decide [] dots is)

-- .. and of those with older origins
less-test : (a b : ℕ) → a < b → nat_lt a b ≡ true
less-test a b lt = grind (arith, nat_tests)

more-test : (a b : ℕ) → b ≤ a → nat_lt a b ≡ false
more-test a b le = grind (arith, nat_tests)

less-is : (a b : ℕ) → nat_lt a b ≡ true → a < b
less-is a b h = grind (arith, nat_tests)

older_in : (n : ℕ) (set : List Item) (s : DottedRule) → In s (older_dots n set) → HasOlderDot (map pair set) n s
older_in n [] s h = elim h [ ]
older_in n (a ∷ set) s h = by (nat_lt a.origin n) refl h (λ g. older_in n set s g)
  where
    later : HasOlderDot (map pair set) n s → HasOlderDot (map pair (a ∷ set)) n s
    later g = record { origin = g.origin; older = g.older; stands = on g.stands }

    by : (b : Bool) → nat_lt a.origin n ≡ b → In s ((if b then dot a.node a.step ∷ [] else []) ++ older_dots n set)
        → (In s (older_dots n set) → HasOlderDot (map pair set) n s) → HasOlderDot (map pair (a ∷ set)) n s
    by true is (now same) rest = record {
      origin = a.origin;
      older = less-is a.origin n is;
      stands = now (ap (λ (v : DottedRule). (at v.node v.step, a.origin)) same);
    }
    by true is (on g) rest = later (rest g)
    by false is g rest = later (rest g)

in_older : (n : ℕ) (set : List Item) (a : Item) → In a set → a.origin < n → In (dot_of a) (older_dots n set)
in_older n [] a h lt = elim h [ ]
in_older n (b ∷ set) a (now same) lt =
    let less : nat_lt b.origin n ≡ true = less-test b.origin n (subst (λ (v : Item). v.origin < n) same lt) in
    rw less (now (ap dot_of same))
in_older n (b ∷ set) a (on h) lt = by (nat_lt b.origin n) (in_older n set a h lt)
  where
    by : (c : Bool) → In (dot_of a) (older_dots n set)
        → In (dot_of a) ((if c then dot b.node b.step ∷ [] else []) ++ older_dots n set)
    by true rest = on rest
    by false rest = rest

older_decide : (n : ℕ) (set : List Item) (dots : List DottedRule) → dots ≡ older_dots n set
    → AreOlderDotsOf (map pair set) n dots
older_decide n set dots are s = (
  λ h. older_in n set s (subst (λ v. In s v) are h),
  λ h. let f = in_pairs_at set s h.origin h.stands in
      subst (λ v. In s v) (sym are)
      (subst (λ v. In v (older_dots n set)) f.0.is
      (in_older n set f.0.item f.0.stands (subst (λ v. v < n) (sym f.1) h.older))),
)

-- what closures begin is as old as their set
none_older : (closures : ℕ → ItemClosure) (j : ℕ) (predictions : List ℕ) (items : List Item)
    → older_dots j (full closures j predictions items) ≡ older_dots j items
none_older closures j [] items = refl
none_older closures j (h ∷ predictions) items = by (closures h).dots (none_older closures j predictions items)
  where
    not_less : nat_lt j j ≡ false
    not_less = more-test j j (omega arith)

    by : (dots : List DottedRule) → older_dots j (expand closures j predictions ++ items) ≡ older_dots j items
        → older_dots j ((map (item_at j) dots ++ expand closures j predictions) ++ items) ≡ older_dots j items
    by [] none = none
    by (s ∷ dots) none = rw not_less (by dots none)

module _ (o : Option (Rc code_flat.Tables Global)) (tables : Rc code_flat.Tables Global) (some : o ≡ Some tables)
    (kept_sets : List EarleySet) (j : ℕ) where
  pub view_older : (f : EarleySet) (items : List Item) (dots : List DottedRule) → slice_get kept_sets j ≡ Some f
      → items ≡ f.items → dots ≡ older_dots j items → AreOlderDotsOf (set_at (chart_of o kept_sets) j) j dots
  view_older f items dots is same_items are =
      let zero_is : 0 + j ≡ j = omega arith in
      let there = get_views tables.value 0 kept_sets j f is ∙ ap (λ v. Some (view tables.value v f)) zero_is in
      let same = index_map (λ set. map pair set) (views tables.value 0 kept_sets) j (view tables.value j f) [] there in
      subst (λ v. AreOlderDotsOf (set_at (chart_of v kept_sets) j) j dots) (sym some)
      (subst (λ v. AreOlderDotsOf v j dots) (sym same)
      (older_decide j (view tables.value j f) dots
      (are ∙ (ap (λ v. older_dots j v) same_items
      ∙ sym (none_older (closure_of tables.value) j f.predictions f.items)))))

  pub past_older : (dots : List DottedRule) → dots ≡ [] → length kept_sets ≤ j
      → AreOlderDotsOf (set_at (chart_of o kept_sets) j) j dots
  past_older dots none past =
      let long = length_views tables.value 0 kept_sets in
      let same = index_past (λ set. map pair set) (views tables.value 0 kept_sets) j [] (omega (arith, long, past)) in
      subst (λ v. AreOlderDotsOf (set_at (chart_of v kept_sets) j) j dots) (sym some)
      (subst (λ v. AreOlderDotsOf v j dots) (sym same) (older_decide j [] dots none))

pub no_tables_older : (o : Option (Rc code_flat.Tables Global)) (kept_sets : List EarleySet) (j : ℕ)
    (dots : List DottedRule) → o ≡ None → dots ≡ [] → AreOlderDotsOf (set_at (chart_of o kept_sets) j) j dots
no_tables_older o kept_sets j dots none is =
    subst (λ v. AreOlderDotsOf (set_at (chart_of v kept_sets) j) j dots) (sym none) (older_decide j [] dots is)
