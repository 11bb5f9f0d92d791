-- Sets of rows on which the worklist is at work, and sets that are filled.
-- Serves: judge
use Rattle.std.proofs.Common.{◌≡◌, ◌⊎◌, inl, inr, ⊎_elim, ℕ, zero, suc, ◌<◌, Option, Some, None}
use Rattle.std.proofs.Common.{List}
use Rattle.std.proofs.Common.{[], ◌∷◌, ◌++◌, length, slice_get, slice_index_or, Contains, refl, sym, ◌∙◌, ap}
use Rattle.std.proofs.Common.{subst}
use Rattle.std.specs.List.Sorted.{IsStrictlyIncreasing}
use Rattle.std.specs.Prelude.{replicate}
use Rattle.earley.specs.RowSets.{Rows, HasAt, TakesAt, no_items}
use Rattle.earleyitems.proofs.IsBuiltLemmas.{built_more, after_holds, whole_holds}
use Rattle.earleyitems.proofs.IsWorkedLemmas.{passed_holds, none_hold, worked_closed}
use Rattle.earleyitems.proofs.ScanLastLemmas.{predicted_holds, completed_holds}
use Rattle.earleyitems.specs.Charts.{IsFirst, IsBuilt}
use Rattle.earleyitems.specs.Closed.{Hold, HoldAll}
use Rattle.earleyitems.specs.ItemSets.{waiting_or}
use Rattle.earleyitems.specs.Worklist.{IsWork, IsWorked}
use Rattle.flatgrammar.proofs.CallOfLemmas.{equal_or, get_below}
use Rattle.flatgrammar.proofs.SliceGetLemmas.{push_cases}
use Rattle.flatgrammar.specs.ItemClosures.{dot}
use Rattle.flatgrammar.specs.Flat.{at}
use Rattle.flatgrammar.specs.Holds.{Holds}
use Rattle.flatgrammar.specs.NodeSteps.{flat_of}
use Rattle.flatgrammar.specs.Positions.{In, AreDifferent}
use Rattle.flatgrammar.specs.TableViews.{GiveTargets, AreNulls}
use Rattle.flatgrammar.specs.declared.closure.DottedRule.{DottedRule}
use Rattle.flatgrammar.specs.declared.flat_item.Item.{Item}
use Rattle.flatgrammar.specs.declared.tables.Tables as code_flat
use Rattle.earley.specs.RowCharts.{row_views, AreSizedRows, IsRowWorklist}
use Rattle.earley.specs.RowItems.{IsRowItem, row_items, Gains, IsFor}
use Rattle.earley.specs.declared.row_sets.KeptRows.{KeptRows}
use Rattle.earley.proofs.RowItemsLemmas.{row_item_in, in_row_item, row_items_different, no_number}

module _ (flat : code_flat.Tables) (targets : GiveTargets (flat_of flat) flat.targets.items)
    (nulls : AreNulls (flat_of flat) flat.nulls.items) (x : List ℕ) (sets : List (List Item))
    (earlier : HoldAll (flat_of flat) x sets) where
  abbrev HoldsHere : Item → Type 0
  HoldsHere a = Holds (flat_of flat) x (length sets) (at a.node a.step) a.origin

  waits_early : (o : ℕ) (found : Option (List Item)) {b : Item} → slice_get sets o ≡ found → In b (waiting_or [] found)
      → o < length sets
  waits_early o None is h = elim h [ ]
  waits_early o (Some set) is h = get_below sets o is

  work_holds : (by a : Item) → HoldsHere by → IsWork flat sets by a → HoldsHere a
  work_holds by a h (inl (inl p)) =
      predicted_holds flat targets x sets [] earlier (none_hold flat targets nulls x sets earlier) by a h p
  work_holds by a h (inl (inr n)) = passed_holds flat targets nulls x sets earlier by a h n
  work_holds by a h (inr c) = completed_holds flat targets x sets [] earlier
      (none_hold flat targets nulls x sets earlier)
      by a h c (λ t. waits_early by.origin (slice_get sets by.origin) refl c.advanced.stands)

  module _ (dots : List DottedRule) where
    pub nothing_pending : (old : Rows) → IsRowWorklist flat dots x sets old → ((p k : ℕ) → HasAt old.pending p k → ⊥)
        → (a : Item) → IsRowItem dots old.all a → (b : Item) → IsWork flat sets a b → IsRowItem dots old.all b
    nothing_pending old work none a h b w =
        ⊎_elim (λ p. absurd (none p.position a.origin p.has)) (λ done. done b w) (work.worked a h)

    module _ (position : ℕ) (row : List ℕ) (old mid new : Rows) (work : IsRowWorklist flat dots x sets old)
        (takes : TakesAt position row old mid) where
      pub stands_mid : (a : Item) → IsRowItem dots old.all a → IsRowItem dots mid.all a
      stands_mid a h = record {
        position = h.position;
        is = h.is;
        has = subst (λ v. HasAt v h.position a.origin) (sym takes.all) h.has;
      }

      stood_old : (a : Item) → IsRowItem dots mid.all a → IsRowItem dots old.all a
      stood_old a h = record {
        position = h.position;
        is = h.is;
        has = subst (λ v. HasAt v h.position a.origin) takes.all h.has;
      }

      -- what was pending is taken, or pending still
      taken_or : (a : Item) → IsRowItem dots old.pending a
          → ((slice_get dots position ≡ Some (dot a.node a.step)) × Contains row a.origin) ⊎ IsRowItem dots
          mid.pending a
      taken_or a h = ⊎_elim
          (λ same. inl (
            subst (λ v. slice_get dots v ≡ Some (dot a.node a.step)) same h.is,
            (takes.taken a.origin).1 (subst (λ v. HasAt old.pending v a.origin) same h.has),
          ))
          (λ other. inr (record {
            position = h.position;
            is = h.is;
            has = (takes.rest h.position a.origin).1 (h.has, other);
          }))
          (equal_or h.position position)

      was_pending : (a : Item) → IsRowItem dots mid.pending a → IsRowItem dots old.pending a
      was_pending a h = record { position = h.position; is = h.is; has = ((takes.rest h.position a.origin).0 h.has).0 }

      -- what is taken stands in the set
      taken_stands : (a : Item) → slice_get dots position ≡ Some (dot a.node a.step) → Contains row a.origin
          → IsRowItem dots old.all a
      taken_stands a is has =
          work.within a (record { position = position; is = is; has = (takes.taken a.origin).0 has })

      pub worked_on : Gains dots (IsFor dots position row (IsWork flat sets)) mid new
          → IsRowWorklist flat dots x sets new
      worked_on gains = record {
        count = gains.count ∙ (ap (λ v. length v) takes.all ∙ work.count);
        held = λ a h. ⊎_elim (λ g. work.held a (stood_old a g))
            (λ g. work_holds g.by a (work.held g.by (taken_stands g.by g.is g.has)) g.work) (gains.only a h);
        within = λ a h. ⊎_elim
            (λ g. gains.kept a (stands_mid a (work.within a (was_pending a g)))) (λ g. g) (gains.within a h);
        worked = λ a h. ⊎_elim (λ g. of_old a (stood_old a g)) (λ g. inl g) (gains.fresh a h);
      }
        where
          of_old : (a : Item) → IsRowItem dots old.all a → IsRowItem dots new.pending a
              ⊎ ((b : Item) → IsWork flat sets a b → IsRowItem dots new.all b)
          of_old a h = ⊎_elim
              (λ p. ⊎_elim
              (λ taken. inr (λ b w. gains.all b (record { by = a; is = taken.0; has = taken.1; work = w })))
              (λ q. inl (gains.still a q)) (taken_or a p))
              (λ done. inr (λ b w. gains.kept b (stands_mid b (done b w)))) (work.worked a h)

      -- an empty row
      pub worked_none : ((k : ℕ) → Contains row k → ⊥) → IsRowWorklist flat dots x sets mid
      worked_none none = record {
        count = ap (λ v. length v) takes.all ∙ work.count;
        held = λ a h. work.held a (stood_old a h);
        within = λ a h. stands_mid a (work.within a (was_pending a h));
        worked = λ a h. ⊎_elim
            (λ p. ⊎_elim (λ taken. absurd (none a.origin taken.1)) (λ q. inl q) (taken_or a p))
            (λ done. inr (λ b w. stands_mid b (done b w))) (work.worked a (stood_old a h));
      }

    -- a set begins: all is pending
    pub begun_rows : (old new : Rows) → old ≡ no_items (length dots) → length old.all ≡ length dots
        → IsBuilt flat x sets → Gains dots (IsFirst flat x sets) old new → IsRowWorklist flat dots x sets new
    begun_rows old new none count built gains = record {
      count = gains.count ∙ count;
      held = λ a h. ⊎_elim (λ g. absurd (nothing a g)) (λ g. first_item a g) (gains.only a h);
      within = λ a h. ⊎_elim (λ g. absurd (nothing_waits a g)) (λ g. g) (gains.within a h);
      worked = λ a h. ⊎_elim (λ g. absurd (nothing a g)) (λ g. inl g) (gains.fresh a h);
    }
      where
        nothing : (a : Item) → IsRowItem dots old.all a → ⊥
        nothing a h = no_number (length dots) h.position a.origin
            (subst (λ v. HasAt v h.position a.origin) (ap (λ v. v.all) none) h.has)

        nothing_waits : (a : Item) → IsRowItem dots old.pending a → ⊥
        nothing_waits a h = no_number (length dots) h.position a.origin
            (subst (λ v. HasAt v h.position a.origin) (ap (λ v. v.pending) none) h.has)

        first_item : (a : Item) → IsFirst flat x sets a → HoldsHere a
        first_item a (inl w) = subst (λ v. Holds (flat_of flat) x v (at a.node a.step) a.origin) (sym w.0)
            (whole_holds flat targets x sets earlier a w.1)
        first_item a (inr r) = after_holds flat targets x sets earlier a r

  -- a set that is filled follows those before it
  pub filled_rows : (dots : List DottedRule) (begun full : Rows) (rows : List (List ℕ)) → AreDifferent dots
      → IsBuilt flat x sets → rows ≡ full.all → ((p : ℕ) → IsStrictlyIncreasing (slice_index_or rows p []))
      → ((a : Item) → IsFirst flat x sets a → IsRowItem dots begun.all a)
      → ((a : Item) → IsRowItem dots begun.all a → IsRowItem dots full.all a)
      → IsRowWorklist flat dots x sets full → ((p k : ℕ) → HasAt full.pending p k → ⊥)
      → IsBuilt flat x (sets ++ row_items dots rows ∷ [])
  filled_rows dots begun full rows different built is up first keeps work none =
      subst (λ v. IsBuilt flat x (sets ++ row_items dots v ∷ [])) (sym is)
      (built_more flat targets x sets built (row_items dots full.all) held
      (row_items_different dots full.all different (λ p. subst (λ v. IsStrictlyIncreasing (slice_index_or v p [])) is
      (up p)))
      (worked_closed flat targets nulls x sets earlier (row_items dots full.all) held worked)
      (λ a h. row_item_in dots full.all a (keeps a (first a h))))
    where
      held : Hold (flat_of flat) x (length sets) (row_items dots full.all)
      held a h = work.held a (in_row_item dots full.all a h)

      worked : IsWorked flat sets (row_items dots full.all) (row_items dots full.all)
      worked a h b w = row_item_in dots full.all b
          (nothing_pending dots full work none a (in_row_item dots full.all a h) b w)

-- rows of nothing
pub length_no : (n : ℕ) → length {A = List ℕ} (replicate n []) ≡ n
length_no zero = refl
length_no (suc n) = ap suc (length_no n)

-- one set more
pub views_more : (dots : List DottedRule) (sets : List KeptRows) (kept : KeptRows)
    → row_views dots (sets ++ kept ∷ []) ≡ row_views dots sets ++ row_items dots kept.rows.items ∷ []
views_more dots [] kept = refl
views_more dots (s ∷ sets) kept = ap (λ v. row_items dots s.rows.items ∷ v) (views_more dots sets kept)

pub sized_more : (dots : List DottedRule) (sets : List KeptRows) (kept : KeptRows) → AreSizedRows dots sets
    → kept.size ≡ length (row_items dots kept.rows.items) → AreSizedRows dots (sets ++ kept ∷ [])
sized_more dots sets kept all last j s is = ⊎_elim (λ was. all j s was)
    (λ h. subst (λ v. v.size ≡ length (row_items dots v.rows.items)) h.1 last) (push_cases sets kept j s is)
