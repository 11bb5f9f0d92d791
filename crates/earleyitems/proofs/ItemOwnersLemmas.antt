-- The owners of items, of those that wait and of those that read.
-- Serves: judge_within.
use Rattle.std.proofs.Common.{◌≡◌, ℕ, zero, suc, ◌<◌, ◌≤◌, ◌⊎◌, inl, inr, List, [], ◌∷◌, ◌++◌, length, map, take, Some}
use Rattle.std.proofs.Common.{None, Option, refl, sym, ◌∙◌, ap, subst, arith, slice_get, slice_index_or}
use Rattle.std.proofs.lemmas.List.{map-append, take_all}
use Rattle.flatgrammar.proofs.SliceGetLemmas.{get_below}
use Rattle.flatgrammar.proofs.CallOfLemmas.{some_same}
use Rattle.flatgrammar.proofs.SliceGetLemmas.{push_cases}
use Rattle.flatgrammar.proofs.DotListLemmas.{readers_pick}
use Rattle.flatgrammar.specs.ItemClosures.{owner_of, owner_or, inlined_of, AreOwners, AreDotLists, closure_of, item_at}
use Rattle.flatgrammar.specs.ItemClosures.{lists_of}
use Rattle.flatgrammar.specs.ItemClosures.{readers_of}
use Rattle.flatgrammar.specs.declared.closure.DottedRule.{DottedRule}
use Rattle.flatgrammar.specs.declared.inlined.Inlined.{Inlined}
use Rattle.flatgrammar.specs.declared.dot_list.Ask.{Ask}
use Rattle.flatgrammar.specs.Positions.{In, now, on}
use Rattle.flatgrammar.specs.declared.flat_item.Item.{Item}
use Rattle.flatgrammar.specs.declared.tables.Tables as code_flat
use Rattle.earleyitems.specs.EarleySets.{EarleySet, set_in, sets_in, last_waiters, GoesOn, predictions_of, firsts_of}
use Rattle.earleyitems.specs.ItemOwners.{prediction_rows, prediction_rows_with, IsOwner, IsOwnerThere, HavePredictions}
use Rattle.earleyitems.specs.ItemOwners.{AreItemsOwned}
use Rattle.earleyitems.specs.ItemOwners.{AreReadersOwned, AreCallersOwned, AreFirstOwned, AreWaitersOwned, AreSetsOwned}
use Rattle.earleyitems.specs.ItemLists.{ItemList}
use Rattle.earleyitems.specs.ItemSets.{IsOneMore}
use Rattle.earleyitems.specs.declared.postdot.CallingItem.{CallingItem}
use Rattle.earleyitems.specs.declared.postdot.OwnedItem.{OwnedItem}
use Rattle.earleyitems.specs.declared.sets.SetBounds.{SetBounds}
use Rattle.earleyitems.specs.declared.sets.Record.{Record}
use Rattle.earleyitems.specs.declared.sets.Stores.{Stores}
use Rattle.earleyitems.specs.declared.waiters.Waiter.{Waiter}
use Rattle.earleyitems.proofs.AreBucketsLemmas.{keeps_get}
use Rattle.earleyitems.proofs.ClosureLemmas.{in_either}
use Rattle.earleyitems.proofs.RecordsLemmas.{set_get, first_at, predictions_long}

-- the predictions of a further set, and more of them
pub rows_more : (rows : List (List ℕ)) (predictions : List ℕ) → HavePredictions (rows ++ predictions ∷ []) rows
rows_more [] predictions o i h is = absurd (cc is)
rows_more (row ∷ rows) predictions zero i h is = is
rows_more (row ∷ rows) predictions (suc o) i h is = rows_more rows predictions o i h is

pub rows_grow : (rows : List (List ℕ)) (predictions added : List ℕ)
    → HavePredictions (rows ++ (predictions ++ added) ∷ []) (rows ++ predictions ∷ [])
rows_grow [] predictions added zero i h is = keeps_get predictions added i h is
rows_grow [] predictions added (suc o) i h is = absurd (cc is)
rows_grow (row ∷ rows) predictions added zero i h is = is
rows_grow (row ∷ rows) predictions added (suc o) i h is = rows_grow rows predictions added o i h is

pub own_row : (rows : List (List ℕ)) (predictions : List ℕ) (n : ℕ) → n ≡ length rows
    → slice_index_or (rows ++ predictions ∷ []) n [] ≡ predictions
own_row [] predictions zero is = refl
own_row [] predictions (suc n) is = absurd (omega (arith, is))
own_row (row ∷ rows) predictions zero is = absurd (omega (arith, is))
own_row (row ∷ rows) predictions (suc n) is = own_row rows predictions n (omega (arith, is))

pub row_at : (kept_sets : List EarleySet) (predictions : List ℕ) (k : ℕ) (f : EarleySet) → slice_get kept_sets k
    ≡ Some f
    → slice_index_or (prediction_rows_with kept_sets predictions) k [] ≡ f.predictions
row_at [] predictions k f is = absurd (cc is)
row_at (g ∷ kept_sets) predictions zero f is = ap (λ v. v.predictions) (some_same is)
row_at (g ∷ kept_sets) predictions (suc k) f is = row_at kept_sets predictions k f is

pub stored_row : (kept_sets : List EarleySet) (k : ℕ) (f : EarleySet) → slice_get kept_sets k ≡ Some f
    → slice_index_or (prediction_rows kept_sets) k [] ≡ f.predictions
stored_row [] k f is = absurd (cc is)
stored_row (g ∷ kept_sets) zero f is = ap (λ v. v.predictions) (some_same is)
stored_row (g ∷ kept_sets) (suc k) f is = stored_row kept_sets k f is

pub rows_pushed : (kept_sets : List EarleySet) (kept_set : EarleySet) (predictions : List ℕ) → kept_set.predictions
    ≡ predictions
    → prediction_rows (kept_sets ++ kept_set ∷ []) ≡ prediction_rows_with kept_sets predictions
rows_pushed kept_sets kept_set predictions same = map-append (λ f. f.predictions) kept_sets (kept_set ∷ [])
    ∙ ap (λ v. prediction_rows kept_sets ++ v ∷ []) same

only_one : {A : Type 0} {a b : A} → In a (b ∷ []) → a ≡ b
only_one (now same) = same
only_one (on h) = elim h [ ]

in_mapped : {A B : Type 0} (f : A → B) {a : A} {xs : List A} → In a xs → In (f a) (map f xs)
in_mapped f (now same) = now (ap f same)
in_mapped f (on h) = on (in_mapped f h)

pub none_in : {A : Type 0} {a : A} {xs : List A} → xs ≡ [] → In a xs → ⊥
none_in {a = a} is h = by (subst (λ v. In a v) is h)
  where
    by : In a [] → ⊥
    by h = elim h [ ]

pub none_of : {A : Type 0} (o : Option A) → ((a : A) → o ≡ Some a → ⊥) → o ≡ None
none_of None never = refl
none_of (Some a) never = absurd (never a refl)

-- the first entry of a list, by the record
pub first_is : (f : EarleySet) (rs : List Record) (k : ℕ) (d : Record) → firsts_of rs ≡ f.firsts → k < length rs
    → slice_index_or f.firsts k 0 ≡ (slice_index_or rs k d).first
first_is f rs k d same lt = sym (first_at rs k d 0 lt ∙ ap (λ v. slice_index_or v k 0) same)

pub within_records : (predictions : List ℕ) (rs : List Record) (k h : ℕ) → predictions_of rs ≡ predictions
    → slice_get predictions k ≡ Some h
    → k < length rs
within_records predictions rs k h same at =
    let lt = get_below predictions k at in
    let long = predictions_long rs in
    let size = ap (λ v. length v) same in
    omega (arith, lt, long, size)

module _ (flat : code_flat.Tables) where
  pub owner_there : (kept_sets : List EarleySet) (predictions : List ℕ) (a : Item) (owner : ℕ)
      → IsOwner flat (prediction_rows_with kept_sets predictions) a owner → IsOwnerThere flat kept_sets a owner
  owner_there kept_sets predictions a owner is f at =
      ap (λ v. slice_get v owner) (sym (row_at kept_sets predictions a.origin f at)) ∙ is

  -- what a closure has has the owner where its prediction is
  module _ (are_owners : AreOwners flat) (rows : List (List ℕ)) (predictions : List ℕ) (h j k : ℕ) (p : DottedRule)
      (row : slice_index_or rows j [] ≡ predictions) (at : slice_get predictions k ≡ Some h) where
    pub dot_owner : In p (closure_of flat h).dots → IsOwner flat rows (item_at j p) k
    dot_owner stands = ap (λ v. slice_get v k) row ∙ (at ∙ ap Some (sym (are_owners.dots h p stands)))

    pub pass_owner : In p (closure_of flat h).passes → IsOwner flat rows (item_at j p) k
    pass_owner stands = ap (λ v. slice_get v k) row ∙ (at ∙ ap Some (sym (are_owners.passes h p stands)))

  pub site_stands : (lists : AreDotLists flat) (h : ℕ) (site : Ask) → In site (lists_of flat h).asks
      → In site.dot (closure_of flat h).dots
  site_stands lists h site stands = (lists h).0.0 site.dot (in_mapped (λ a. a.dot) stands)

  pub reader_stands : (lists : AreDotLists flat) (h c : ℕ) (p : DottedRule) → In p (readers_of flat h c)
      → In p (closure_of flat h).dots
  reader_stands lists h c p stands = (readers_pick flat h c lists).0 p stands

  pub owner_own : (t : ℕ) → inlined_of flat t ≡ None → owner_of flat t ≡ t
  owner_own t is = ap (λ o. owner_or o t) is

  pub owner_inlined : (t : ℕ) (inlined : Inlined) → inlined_of flat t ≡ Some inlined → owner_of flat t
      ≡ inlined.prediction
  owner_inlined t inlined is = ap (λ o. owner_or o t) is

  -- owners stay while predictions are added
  module _ (more rows : List (List ℕ)) (have : HavePredictions more rows) where
    pub items_keep : (list : ItemList) → AreItemsOwned flat rows list → AreItemsOwned flat more list
    items_keep list are i a owner at is = have a.origin owner (owner_of flat a.node) (are i a owner at is)

    pub readers_keep : (readers : List OwnedItem) → AreReadersOwned flat rows readers
        → AreReadersOwned flat more readers
    readers_keep readers are r h = have r.item.origin r.owner (owner_of flat r.item.node) (are r h)

    pub callers_keep : (callers : List CallingItem) → AreCallersOwned flat rows callers
        → AreCallersOwned flat more callers
    callers_keep callers are c h = have c.at.item.origin c.at.owner (owner_of flat c.at.item.node) (are c h)

    pub waiters_keep : (waiters : List Waiter) → AreWaitersOwned flat rows waiters → AreWaitersOwned flat more waiters
    waiters_keep waiters are i w at = have w.item.origin w.owner (owner_of flat w.item.node) (are i w at)

  module _ (rows : List (List ℕ)) where
    -- one more entry
    pub entry_owned : (items more : List Item) (owners current : List ℕ) (item : Item) (owner n : ℕ) → n ≡ length items
        → slice_get current n ≡ Some owner
        → ((i h : ℕ) → i < n → slice_get current i ≡ Some h → slice_get owners i ≡ Some h)
        → IsOneMore item items more → IsOwner flat rows item owner
        → AreItemsOwned flat rows (record { items = items; owners = owners })
        → AreItemsOwned flat rows (record { items = more; owners = current })
    entry_owned items more owners current item owner n count here others (inl same) is are i a h at there =
        let was : slice_get items i ≡ Some a = ap (λ v. slice_get v i) (sym same) ∙ at in
        let lt = get_below items i was in
        are i a h was (others i h (omega (arith, lt, count)) there)
    entry_owned items more owners current item owner n count here others (inr pushed) is are i a h at there =
        by (push_cases items item i a (ap (λ v. slice_get v i) (sym pushed) ∙ at))
      where
        by : (slice_get items i ≡ Some a) ⊎ ((i ≡ length items) × (item ≡ a)) → IsOwner flat rows a h
        by (inl was) = let lt = get_below items i was in are i a h was (others i h (omega (arith, lt, count)) there)
        by (inr last) =
            let at_end : slice_get current i ≡ Some owner = subst (λ k. slice_get current k ≡ Some owner)
            (count ∙ sym last.0) here in
            let same : owner ≡ h = some_same (sym at_end ∙ there) in
            subst (λ v. IsOwner flat rows a v) same (subst (λ v. IsOwner flat rows v owner) last.1 is)

    pub waiters_push : (ws : List Waiter) (w : Waiter) → IsOwner flat rows w.item w.owner → AreWaitersOwned flat rows ws
        → AreWaitersOwned flat rows (ws ++ w ∷ [])
    waiters_push ws w is are i v at = by (push_cases ws w i v at)
      where
        by : (slice_get ws i ≡ Some v) ⊎ ((i ≡ length ws) × (w ≡ v)) → IsOwner flat rows v.item v.owner
        by (inl was) = are i v was
        by (inr last) = subst (λ u. IsOwner flat rows u.item u.owner) last.1 is

    pub callers_push : (cs : List CallingItem) (c : CallingItem) → IsOwner flat rows c.at.item c.at.owner
        → AreCallersOwned flat rows cs → AreCallersOwned flat rows (cs ++ c ∷ [])
    callers_push cs c is are d h = by (in_either cs h)
      where
        by : In d cs ⊎ In d (c ∷ []) → IsOwner flat rows d.at.item d.at.owner
        by (inl was) = are d was
        by (inr last) = subst (λ u. IsOwner flat rows u.at.item u.at.owner) (sym (only_one last)) is

    pub readers_push : (rs : List OwnedItem) (r : OwnedItem) → IsOwner flat rows r.item r.owner
        → AreReadersOwned flat rows rs → AreReadersOwned flat rows (rs ++ r ∷ [])
    readers_push rs r is are d h = by (in_either rs h)
      where
        by : In d rs ⊎ In d (r ∷ []) → IsOwner flat rows d.item d.owner
        by (inl was) = are d was
        by (inr last) = subst (λ u. IsOwner flat rows u.item u.owner) (sym (only_one last)) is

    -- the waiters of a set are the first ones of all
    pub first_owned : (ws all : List Waiter) (first : ℕ) → GoesOn ws all → first ≤ length ws
        → AreWaitersOwned flat rows ws → AreFirstOwned flat rows all first
    first_owned ws all first go le are i w lt at =
        are i w (set_get ws go.0 i w (omega (arith, lt, le)) (ap (λ v. slice_get v i) (sym go.1) ∙ at))

    last_owned : (s : Stores) (count : ℕ) (bounds : List SetBounds)
        → AreWaitersOwned flat rows (take count s.waiters.items)
        → ((k : ℕ) (f : EarleySet) → slice_get (sets_in s bounds) k ≡ Some f → AreWaitersOwned flat rows f.waiters)
        → AreWaitersOwned flat rows (take (last_waiters count bounds) s.waiters.items)
    last_owned s count [] front each = front
    last_owned s count (b ∷ bounds) front each =
        last_owned s b.waiters bounds (each 0 (set_in s b) refl) (λ k f at. each (suc k) f at)

    none_owned : (ws : List Waiter) → AreWaitersOwned flat rows (take 0 ws)
    none_owned [] i w at = absurd (cc at)
    none_owned (v ∷ ws) i w at = absurd (cc at)

  pub none_owned_items : (rows : List (List ℕ)) (list : ItemList) → list.items ≡ [] → AreItemsOwned flat rows list
  none_owned_items rows list is i a owner at there =
      let none : slice_get {X = Item} [] i ≡ Some a = ap (λ v. slice_get v i) (sym is) ∙ at in absurd (cc none)

  -- those of all sets are all
  pub all_owned : (s : Stores) (bounds : List SetBounds) → last_waiters 0 bounds ≡ length s.waiters.items
      → AreSetsOwned flat (sets_in s bounds) → AreWaitersOwned flat (prediction_rows (sets_in s bounds)) s.waiters.items
  all_owned s bounds ends are =
      let rows = prediction_rows (sets_in s bounds) in
      subst (λ v. AreWaitersOwned flat rows v) (take_all (last_waiters 0 bounds) s.waiters.items (omega (arith, ends)))
      (last_owned rows s 0 bounds (none_owned rows s.waiters.items) are)

  -- one more set
  pub sets_owned : (kept_sets : List EarleySet) (kept_set : EarleySet) (predictions : List ℕ) → kept_set.predictions
      ≡ predictions
      → AreSetsOwned flat kept_sets → AreWaitersOwned flat (prediction_rows_with kept_sets predictions) kept_set.waiters
      → AreSetsOwned flat (kept_sets ++ kept_set ∷ [])
  sets_owned kept_sets kept_set predictions same are here k f at =
      subst (λ v. AreWaitersOwned flat v f.waiters) (sym (rows_pushed kept_sets kept_set predictions same))
      (by (push_cases kept_sets kept_set k f at))
    where
      by : (slice_get kept_sets k ≡ Some f) ⊎ ((k ≡ length kept_sets) × (kept_set ≡ f))
          → AreWaitersOwned flat (prediction_rows_with kept_sets predictions) f.waiters
      by (inl was) = waiters_keep (prediction_rows_with kept_sets predictions) (prediction_rows kept_sets)
          (rows_more (prediction_rows kept_sets) predictions) f.waiters (are k f was)
      by (inr last) = subst
          (λ v. AreWaitersOwned flat (prediction_rows_with kept_sets predictions) v.waiters) last.1 here
