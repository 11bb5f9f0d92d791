-- What the items of a list have after a letter, appended to a list.
-- Serves: judge.
use Rattle.std.proofs.Common.{◌≡◌, ℕ, ◌+◌, ◌<◌, ◌⊎◌, inl, inr, List, [], ◌∷◌, ◌++◌, length, map, take, slice_index_or}
use Rattle.std.proofs.Common.{refl, sym, ◌∙◌, ap, subst, arith, append_assoc}
use Rattle.std.proofs.lemmas.List.{append-nil}
use Rattle.flatgrammar.specs.Positions.{In, now, on, AreDifferent}
use Rattle.flatgrammar.specs.declared.flat_item.Item.{Item}
use Rattle.flatgrammar.specs.declared.tables.Tables as code_flat
use Rattle.flatgrammar.specs.declared.closure.DottedRule.{DottedRule}
use Rattle.flatgrammar.specs.TableViews.{read_of}
use Rattle.flatgrammar.specs.NodeSteps.{IfSomeSet}
use Rattle.flatgrammar.specs.ItemClosures.{item_at, ItemClosure, closure_of, readers_of, AreDotLists}
use Rattle.flatgrammar.proofs.DotListLemmas.{readers_pick}
use Rattle.flatgrammar.proofs.InLemmas.{in_left}
use Rattle.earleyitems.specs.declared.postdot.OwnedItem.{OwnedItem}
use Rattle.earleyitems.specs.Chosen.{items_of}
use Rattle.earleyitems.specs.ItemSets.{Adds}
use Rattle.earleyitems.specs.ScannedItems.{IsScannedItem, AreScannedItems}
use Rattle.earleyitems.specs.SetViews.{expand}
use Rattle.earleyitems.proofs.ItemLemmas.{item_same}
use Rattle.earleyitems.proofs.ClosureLemmas.{in_right, in_either, in_map, from_map, different_left, different_right}
use Rattle.earleyitems.proofs.ClosureLemmas.{different_apart, different_both, different_map, different_dots}
use Rattle.earleyitems.proofs.ExpandLemmas.{take_one, map_end, expand_end}

module _ (flat : code_flat.Tables) (c : ℕ) where
  read_by : (ws vs : List Item) (a : Item) (r : IsScannedItem flat c ws a) → In r.by vs → IsScannedItem flat c vs a
  read_by ws vs a r h =
      record { by = r.by; stands = h; reads = r.reads; node = r.node; step = r.step; origin = r.origin }

  -- an item comes after one alone
  same_by : (ws vs : List Item) (a : Item) (r : IsScannedItem flat c ws a) (s : IsScannedItem flat c vs a) → s.by ≡ r.by
  same_by ws vs a r s =
      let here = r.step in
      let there = s.step in
      let step : s.by.step ≡ r.by.step = omega (arith, here, there) in
      item_same s.by r.by.node r.by.step r.by.origin (sym s.node ∙ r.node) step (sym s.origin ∙ r.origin)

  pub read_none : (old : List Item) → AreScannedItems flat c [] old old
  read_none old = record {
    added = [];
    is = sym (append-nil old);
    all = λ a r. nobody a r.by r.stands;
    only = λ a h. elim h [ ];
    different = λ d. d;
  }
    where
      nobody : (a b : Item) → In b [] → In a []
      nobody a b h = elim h [ ]

  pub read_both : (ws vs : List Item) (old mid new : List Item) → AreScannedItems flat c ws old mid
      → AreScannedItems flat c vs mid new
      → AreScannedItems flat c (ws ++ vs) old new
  read_both ws vs old mid new p q = record {
    added = p.added ++ q.added;
    is = q.is ∙ (ap (λ v. v ++ q.added) p.is ∙ append_assoc old p.added q.added);
    all = λ a r. all a r (in_either ws r.stands);
    only = λ a h. only a (in_either p.added h);
    different = λ d. different_both p.added q.added (p.different (different_left ws vs d))
        (q.different (different_right ws vs d)) (λ a h g. apart a d (p.only a h) (q.only a g));
  }
    where
      all : (a : Item) (r : IsScannedItem flat c (ws ++ vs) a) → In r.by ws ⊎ In r.by vs → In a (p.added ++ q.added)
      all a r (inl h) = in_left q.added (p.all a (read_by (ws ++ vs) ws a r h))
      all a r (inr h) = in_right p.added (q.all a (read_by (ws ++ vs) vs a r h))

      only : (a : Item) → In a p.added ⊎ In a q.added → IsScannedItem flat c (ws ++ vs) a
      only a (inl h) = let r = p.only a h in read_by ws (ws ++ vs) a r (in_left vs r.stands)
      only a (inr h) = let r = q.only a h in read_by vs (ws ++ vs) a r (in_right ws r.stands)

      apart : (a : Item) → AreDifferent (ws ++ vs) → IsScannedItem flat c ws a → IsScannedItem flat c vs a → ⊥
      apart a d r s = different_apart ws vs d r.stands (subst (λ v. In v vs) (same_by ws vs a r s) s.stands)

  pub scan_item : (item : Item) (old new : List Item) → IfSomeSet (read_of flat item) c
      → new ≡ old ++ record { node = item.node; step = item.step + 1; origin = item.origin } ∷ []
      → AreScannedItems flat c (item ∷ []) old new
  scan_item item old new reads is = record {
    added = record { node = item.node; step = item.step + 1; origin = item.origin } ∷ [];
    is = is;
    all = λ a r. back a r r.stands;
    only = λ a h. by a h;
    different = λ d. ((λ h. elim h [ ]), tt);
  }
    where
      by : (a : Item) → In a (record { node = item.node; step = item.step + 1; origin = item.origin } ∷ [])
          → IsScannedItem flat c (item ∷ []) a
      by a (now h) = record {
        by = item;
        stands = now refl;
        reads = reads;
        node = ap (λ v. v.node) h;
        step = ap (λ v. v.step) h;
        origin = ap (λ v. v.origin) h;
      }
      by a (on h) = elim h [ ]

      back : (a : Item) (r : IsScannedItem flat c (item ∷ []) a) → In r.by (item ∷ [])
          → In a (record { node = item.node; step = item.step + 1; origin = item.origin } ∷ [])
      back a r (now same) = now (item_same a item.node (item.step + 1) item.origin (r.node ∙ ap (λ v. v.node) same)
          (r.step ∙ ap (λ v. v.step + 1) same) (r.origin ∙ ap (λ v. v.origin) same))
      back a r (on h) = elim h [ ]

  pub read_not : (item : Item) (old : List Item) → (IfSomeSet (read_of flat item) c → ⊥)
      → AreScannedItems flat c (item ∷ []) old old
  read_not item old never = record {
    added = [];
    is = sym (append-nil old);
    all = λ a r. nobody a r r.stands;
    only = λ a h. elim h [ ];
    different = λ d. tt;
  }
    where
      nobody : (a : Item) (r : IsScannedItem flat c (item ∷ []) a) → In r.by (item ∷ []) → In a []
      nobody a r (now same) = absurd (never (subst (λ v. IfSomeSet (read_of flat v) c) same r.reads))
      nobody a r (on h) = elim h [ ]

  pub scan_owned_more : (ws : List OwnedItem) (k : ℕ) (d : OwnedItem) (old mid new : List Item) → k < length ws
      → AreScannedItems flat c (items_of (take k ws)) old mid → AreScannedItems flat c ((slice_index_or ws k d).item ∷
      []) mid new
      → AreScannedItems flat c (items_of (take (k + 1) ws)) old new
  scan_owned_more ws k d old mid new lt p q =
      subst (λ v. AreScannedItems flat c v old new) (sym (ap (λ v. items_of v) (take_one ws k d lt)
      ∙ map_end (λ h. h.item) (take k ws) (slice_index_or ws k d)))
      (read_both (items_of (take k ws)) ((slice_index_or ws k d).item ∷ []) old mid new p q)

  pub scan_dots_more : (j : ℕ) (ws : List DottedRule) (k : ℕ) (d : DottedRule) (old mid new : List Item)
      → k < length ws
      → AreScannedItems flat c (map (item_at j) (take k ws)) old mid
      → AreScannedItems flat c (item_at j (slice_index_or ws k d) ∷ []) mid new
      → AreScannedItems flat c (map (item_at j) (take (k + 1) ws)) old new
  scan_dots_more j ws k d old mid new lt p q =
      subst (λ v. AreScannedItems flat c v old new) (sym (ap (λ v. map (item_at j) v) (take_one ws k d lt)
      ∙ map_end (item_at j) (take k ws) (slice_index_or ws k d)))
      (read_both (map (item_at j) (take k ws)) (item_at j (slice_index_or ws k d) ∷ []) old mid new p q)

  pub scan_predictions_more : (closures : ℕ → ItemClosure) (j : ℕ) (hs : List ℕ) (k d : ℕ) (old mid new : List Item)
      → k < length hs → AreScannedItems flat c (expand closures j (take k hs)) old mid
      → AreScannedItems flat c (map (item_at j) (closures (slice_index_or hs k d)).dots) mid new
      → AreScannedItems flat c (expand closures j (take (k + 1) hs)) old new
  scan_predictions_more closures j hs k d old mid new lt p q =
      subst (λ v. AreScannedItems flat c v old new) (sym (ap (λ v. expand closures j v) (take_one hs k d lt)
      ∙ expand_end closures j (take k hs) (slice_index_or hs k d)))
      (read_both (expand closures j (take k hs))
      (map (item_at j) (closures (slice_index_or hs k d)).dots) old mid new p q)

  -- where there was nothing, what different items have after the letter is added
  pub read_adds : (from new : List Item) → AreDifferent from → AreScannedItems flat c from [] new
      → Adds (IsScannedItem flat c from) [] new
  read_adds from new d r = record {
    added = r.added;
    is = r.is;
    all = λ a h. subst (λ v. In a v) (sym r.is) (r.all a h);
    only = λ a h. inr (r.only a (subst (λ v. In a v) r.is h));
    different = λ none. subst (λ v. AreDifferent v) (sym r.is) (r.different d);
  }

module _ (flat : code_flat.Tables) (c : ℕ) (old new : List Item) where
  -- items that do not read the letter may be left out
  pub read_fewer : (few all : List Item) → ((a : Item) → In a few → In a all)
      → ((a : Item) → In a all → IfSomeSet (read_of flat a) c → In a few) → (AreDifferent all → AreDifferent few)
      → AreScannedItems flat c few old new → AreScannedItems flat c all old new
  read_fewer few all stand reading differ p = record {
    added = p.added;
    is = p.is;
    all = λ a r. p.all a (read_by flat c all few a r (reading r.by r.stands r.reads));
    only = λ a h. let r = p.only a h in read_by flat c few all a r (stand r.by r.stands);
    different = λ d. p.different (differ d);
  }

  -- of a closure the dotted rules that are tried on the letter are enough
  pub closure_read : (lists : AreDotLists flat) (prediction j : ℕ)
      → AreScannedItems flat c (map (item_at j) (readers_of flat prediction c)) old new
      → AreScannedItems flat c (map (item_at j) (closure_of flat prediction).dots) old new
  closure_read lists prediction j =
      let picks = readers_pick flat prediction c lists in
      read_fewer (map (item_at j) (readers_of flat prediction c)) (map (item_at j) (closure_of flat prediction).dots)
      (λ a i. let m = from_map j a (readers_of flat prediction c) i in
      subst (λ v. In v (map (item_at j) (closure_of flat prediction).dots)) (sym m.is)
      (in_map j m.dot (closure_of flat prediction).dots (picks.0 m.dot m.stands)))
      (λ a i r. let m = from_map j a (closure_of flat prediction).dots i in
      subst (λ v. In v (map (item_at j) (readers_of flat prediction c))) (sym m.is)
      (in_map j m.dot (readers_of flat prediction c) (picks.1 m.dot m.stands
      (subst (λ v. IfSomeSet (read_of flat v) c) m.is r))))
      (λ d. different_map j (readers_of flat prediction c)
      (picks.2 (different_dots j (closure_of flat prediction).dots d)))
