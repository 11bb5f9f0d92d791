-- The dotted rules of the items of rows.
-- Serves: Chart::dots
use Rattle.std.proofs.Common.{◌≡◌, ◌⊎◌, inl, inr, ⊎_elim, ℕ, ◌+◌, ◌<◌, ◌≤◌, List, [], ◌∷◌, ◌++◌, length, map, Some}
use Rattle.std.proofs.Common.{slice_get, slice_index_or, sym, ◌∙◌, ap, subst, arith}
use Rattle.std.proofs.lemmas.Bool.{cases_lt}
use Rattle.std.proofs.lemmas.Bool.Decides.{nat_tests}
use Rattle.std.specs.Prelude.{nat_lt, true}
use Rattle.std.proofs.lemmas.List.{length-map}
use Rattle.std.proofs.lemmas.Option.{slice_get-get_or}
use Rattle.earley.specs.RowSets.{HasOlder, HasSome}
use Rattle.flatgrammar.proofs.CallOfLemmas.{get_below, get_map, some_same}
use Rattle.flatgrammar.proofs.InLemmas.{at_end, before_end, in_left}
use Rattle.flatgrammar.specs.ItemClosures.{item_at}
use Rattle.flatgrammar.specs.Flat.{Dot, at}
use Rattle.flatgrammar.specs.Positions.{In}
use Rattle.flatgrammar.specs.declared.closure.DottedRule.{DottedRule}
use Rattle.flatgrammar.specs.declared.flat_item.Item.{Item}
use Rattle.earleyitems.proofs.ChartSetsLemmas.{index_map, index_past}
use Rattle.earleyitems.proofs.SetDotsLemmas.{in_pairs, in_pairs_at, pair_in}
use Rattle.earleyitems.specs.ChartSets.{pair, set_at, AreDotsOf, AreOlderDotsOf, HasDot, HasOlderDot}
use Rattle.earley.proofs.RowItemsLemmas.{in_row_item, row_item_in}
use Rattle.earley.specs.RowCharts.{row_views, rows_chart}
use Rattle.earley.specs.RowItems.{AreDotsBelow, HasDotBelow, row_items}
use Rattle.earley.specs.declared.row_sets.KeptRows.{KeptRows}
use Rattle.earley.specs.declared.row_sets.RowChart.{RowChart}

module _ (dots : List DottedRule) (Q : ℕ → Type 0) (i : ℕ) where
  wider_below : (s : DottedRule) → HasDotBelow dots Q i s → HasDotBelow dots Q (i + 1) s
  wider_below s h = let lt = h.under
      in record { position = h.position; under = omega (arith, lt); is = h.is; some = h.some }

  -- below the dotted rule, or there
  there_or_below : (s : DottedRule) (h : HasDotBelow dots Q (i + 1) s) → HasDotBelow dots Q i s
      ⊎ ((slice_get dots i ≡ Some s) × Q i)
  there_or_below s h = by (cases_lt h.position i)
    where
      by : (h.position < i) ⊎ (i ≤ h.position) → HasDotBelow dots Q i s
          ⊎ ((slice_get dots i ≡ Some s) × Q i)
      by (inl less) = inl (record { position = h.position; under = less; is = h.is; some = h.some })
      by (inr le) =
          let same : h.position ≡ i = let lt = h.under in omega (arith, lt, le) in
          inr (subst (λ v. slice_get dots v ≡ Some s) same h.is, subst (λ v. Q v) same h.some)

  pub dots_more : (d : DottedRule) (old new : List DottedRule) → i < length dots → AreDotsBelow dots Q i old
      → new ≡ old ++ slice_index_or dots i d ∷ [] → Q i → AreDotsBelow dots Q (i + 1) new
  dots_more d old new lt before is some s = (
    λ h. ⊎_elim (λ g. wider_below s ((before s).0 g)) (λ same. record {
      position = i;
      under = omega arith;
      is = slice_get-get_or dots i d lt ∙ ap Some (sym same);
      some = some;
    }) (before_end s (slice_index_or dots i d) old (subst (λ v. In s v) is h)),
    λ h. subst (λ v. In s v) (sym is) (⊎_elim (λ g. in_left (slice_index_or dots i d ∷ []) ((before s).1 g))
        (λ g. let same : slice_index_or dots i d ≡ s = some_same (sym (slice_get-get_or dots i d lt) ∙ g.0) in
        subst (λ v. In v (old ++ slice_index_or dots i d ∷ [])) same (at_end (slice_index_or dots i d) old))
        (there_or_below s h)),
  )

  pub dots_same : (old new : List DottedRule) → AreDotsBelow dots Q i old → new ≡ old → (Q i → ⊥)
      → AreDotsBelow dots Q (i + 1) new
  dots_same old new before is none s = (
    λ h. wider_below s ((before s).0 (subst (λ v. In s v) is h)),
    λ h. subst (λ v. In s v) (sym is) (⊎_elim (λ g. (before s).1 g) (λ g. absurd (none g.1)) (there_or_below s h)),
  )

-- the dotted rules of a set that is kept as rows
rows_decide : (dots : List DottedRule) (rows : List (List ℕ)) (found : List DottedRule)
    → AreDotsBelow dots (HasSome rows) (length dots) found → AreDotsOf (map pair (row_items dots rows)) found
rows_decide dots rows found are s = (
  λ h. let f = (are s).0 h in
      let a : Item = item_at f.some.0 s in
      record {
        origin = f.some.0;
        stands = pair_in (row_items dots rows) a
            (row_item_in dots rows a (record { position = f.position; is = f.is; has = f.some.1 }));
      },
  λ h. let f = in_pairs (row_items dots rows) s h.origin h.stands in
      let r = in_row_item dots rows f.item f.stands in
      (are s).1 (record {
        position = r.position;
        under = get_below dots r.position r.is;
        is = r.is ∙ ap Some f.is;
        some = (f.item.origin, r.has);
      }),
)

pub row_chart_dots : (r : RowChart) (j : ℕ) (kept : KeptRows) (found : List DottedRule)
    → slice_get r.sets.items j ≡ Some kept
    → AreDotsBelow r.table.dots.items (HasSome kept.rows.items) (length r.table.dots.items) found
    → AreDotsOf (set_at (rows_chart r) j) found
row_chart_dots r j kept found is are =
    subst (λ v. AreDotsOf v found)
    (sym (index_map (λ set. map pair set) (row_views r.table.dots.items r.sets.items) j
    (row_items r.table.dots.items kept.rows.items) []
    (get_map (λ s. row_items r.table.dots.items s.rows.items) r.sets.items j is)))
    (rows_decide r.table.dots.items kept.rows.items found are)

pub row_past_dots : (r : RowChart) (j : ℕ) (found : List DottedRule) → length r.sets.items ≤ j → found ≡ []
    → AreDotsOf (set_at (rows_chart r) j) found
row_past_dots r j found le none =
    let count = length-map r.sets.items (λ s. row_items r.table.dots.items s.rows.items) in
    subst (λ v. AreDotsOf v found)
    (sym (index_past (λ set. map pair set) (row_views r.table.dots.items r.sets.items) j []
    (omega (arith, le, count))))
    (λ s. ((λ h. nobody s (subst (λ v. In s v) none h)), λ h. no_pair s h.origin h.stands))
  where
    nobody : (s : DottedRule) → In s [] → HasDot [] s
    nobody s h = elim h [ ]

    no_pair : (s : DottedRule) (i : ℕ) → In {A = Dot × ℕ} (at s.node s.step, i) [] → In s found
    no_pair s i h = elim h [ ]

pub less_test : (a b : ℕ) → a < b → nat_lt a b ≡ true
less_test a b lt = grind (arith, nat_tests)

pub less_is : (a b : ℕ) → nat_lt a b ≡ true → a < b
less_is a b h = grind (arith, nat_tests)

-- .. and of those with older origins
rows_decide_older : (n : ℕ) (dots : List DottedRule) (rows : List (List ℕ)) (found : List DottedRule)
    → AreDotsBelow dots (HasOlder rows n) (length dots) found → AreOlderDotsOf (map pair (row_items dots rows)) n found
rows_decide_older n dots rows found are s = (
  λ h. let f = (are s).0 h in
      let a : Item = item_at f.some.0 s in
      record {
        origin = f.some.0;
        older = f.some.2;
        stands = pair_in (row_items dots rows) a
            (row_item_in dots rows a (record { position = f.position; is = f.is; has = f.some.1 }));
      },
  λ h. let g = in_pairs_at (row_items dots rows) s h.origin h.stands in
      let f = g.0 in
      let r = in_row_item dots rows f.item f.stands in
      (are s).1 (record {
        position = r.position;
        under = get_below dots r.position r.is;
        is = r.is ∙ ap Some f.is;
        some = (f.item.origin, r.has, subst (λ v. v < n) (sym g.1) h.older);
      }),
)

pub row_chart_older : (r : RowChart) (j : ℕ) (kept : KeptRows) (found : List DottedRule)
    → slice_get r.sets.items j ≡ Some kept
    → AreDotsBelow r.table.dots.items (HasOlder kept.rows.items j) (length r.table.dots.items) found
    → AreOlderDotsOf (set_at (rows_chart r) j) j found
row_chart_older r j kept found is are =
    subst (λ v. AreOlderDotsOf v j found)
    (sym (index_map (λ set. map pair set) (row_views r.table.dots.items r.sets.items) j
    (row_items r.table.dots.items kept.rows.items) []
    (get_map (λ s. row_items r.table.dots.items s.rows.items) r.sets.items j is)))
    (rows_decide_older j r.table.dots.items kept.rows.items found are)

pub row_past_older : (r : RowChart) (j : ℕ) (found : List DottedRule) → length r.sets.items ≤ j → found ≡ []
    → AreOlderDotsOf (set_at (rows_chart r) j) j found
row_past_older r j found le none =
    let count = length-map r.sets.items (λ s. row_items r.table.dots.items s.rows.items) in
    subst (λ v. AreOlderDotsOf v j found)
    (sym (index_past (λ set. map pair set) (row_views r.table.dots.items r.sets.items) j []
    (omega (arith, le, count))))
    (λ s. ((λ h. nobody s (subst (λ v. In s v) none h)), λ h. no_pair s h.origin h.stands))
  where
    nobody : (s : DottedRule) → In s [] → HasOlderDot [] j s
    nobody s h = elim h [ ]

    no_pair : (s : DottedRule) (i : ℕ) → In {A = Dot × ℕ} (at s.node s.step, i) [] → In s found
    no_pair s i h = elim h [ ]
