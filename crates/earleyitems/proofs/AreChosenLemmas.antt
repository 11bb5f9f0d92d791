-- Of the items of a set those that are chosen, item by item.
-- Serves: judge.
use Rattle.std.proofs.Common.{◌≡◌, ℕ, ◌+◌, ◌<◌, ◌≤◌, ◌⊎◌, inl, inr, List, [], ◌∷◌, ◌++◌, Some, length, take, arith}
use Rattle.std.proofs.Common.{ap, slice_get, slice_index_or, refl, sym, ◌∙◌, subst, length-append}
use Rattle.std.proofs.lemmas.Option.{slice_get_within}
use Rattle.flatgrammar.specs.Positions.{In, now}
use Rattle.flatgrammar.specs.declared.flat_item.Item.{Item}
use Rattle.flatgrammar.specs.declared.tables.Tables as code_flat
use Rattle.flatgrammar.proofs.SliceGetLemmas.{push_cases}
use Rattle.flatgrammar.proofs.InLemmas.{in_left, at_end, before_end, different_end}
use Rattle.earleyitems.specs.EarleySets.{EarleySet}
use Rattle.earleyitems.specs.declared.postdot.OwnedItem.{OwnedItem}
use Rattle.earleyitems.specs.declared.postdot.CallingItem.{CallingItem}
use Rattle.earleyitems.specs.Chosen.{items_of, callers_of, Calls, ReadsSome, AreChosen, AreCallers, AreReaders}
use Rattle.flatgrammar.specs.TableViews.{call_of}
use Rattle.earleyitems.specs.ItemSets.{Adds}
use Rattle.earleyitems.proofs.ClosureLemmas.{different_left, different_apart}
use Rattle.earleyitems.proofs.ExpandLemmas.{map_end, take_one, take_past}
use Rattle.earleyitems.proofs.FillLemmas.{front_same}

-- the readers of a set that is put after the others
pub readers_push : (flat : code_flat.Tables) (kept_sets : List EarleySet) (kept_set : EarleySet) (items : List Item)
    (readers : List OwnedItem) → kept_set.items ≡ items → AreChosen (ReadsSome flat) items (items_of readers)
    → AreReaders flat (kept_sets ++ kept_set ∷ []) readers
readers_push flat kept_sets kept_set items readers same are k f size is = by (push_cases kept_sets kept_set k f is)
  where
    by : (slice_get kept_sets k ≡ Some f) ⊎ ((k ≡ length kept_sets) × (kept_set ≡ f))
        → AreChosen (ReadsSome flat) f.items (items_of readers)
    by (inl old) =
        let lt = slice_get_within kept_sets k f old in
        let count = length-append kept_sets (kept_set ∷ []) in absurd (omega (arith, lt, size, count))
    by (inr new) = subst (λ v. AreChosen (ReadsSome flat) v.items (items_of readers)) new.1
        (subst (λ v. AreChosen (ReadsSome flat) v (items_of readers)) (sym same) are)

module _ (Q : Item → Type 0) where
  pub chosen_none : AreChosen Q [] []
  chosen_none = record { stand = λ a h. h; chosen = λ a h q. h; different = λ d. d }

  pub chosen_more : (all few : List Item) (b : Item) → AreChosen Q all few → AreChosen Q (all ++ b ∷ []) (few ++ b ∷ [])
  chosen_more all few b are = record {
    stand = λ a h. up a (before_end a b few h);
    chosen = λ a h q. down a q (before_end a b all h);
    different = λ d. different_end b few (λ h. different_apart all (b ∷ []) d (are.stand b h) (now refl))
        (are.different (different_left all (b ∷ []) d));
  }
    where
      up : (a : Item) → In a few ⊎ (a ≡ b) → In a (all ++ b ∷ [])
      up a (inl i) = in_left (b ∷ []) (are.stand a i)
      up a (inr same) = subst (λ v. In v (all ++ b ∷ [])) (sym same) (at_end b all)

      down : (a : Item) → Q a → In a all ⊎ (a ≡ b) → In a (few ++ b ∷ [])
      down a q (inl i) = in_left (b ∷ []) (are.chosen a i q)
      down a q (inr same) = subst (λ v. In v (few ++ b ∷ [])) (sym same) (at_end b few)

  pub chosen_past : (all few : List Item) (b : Item) → (Q b → ⊥) → AreChosen Q all few → AreChosen Q (all ++ b ∷ []) few
  chosen_past all few b none are = record {
    stand = λ a h. in_left (b ∷ []) (are.stand a h);
    chosen = λ a h q. down a q (before_end a b all h);
    different = λ d. are.different (different_left all (b ∷ []) d);
  }
    where
      down : (a : Item) → Q a → In a all ⊎ (a ≡ b) → In a few
      down a q (inl i) = are.chosen a i q
      down a q (inr same) = absurd (none (subst Q same q))

  module _ {P : Item → Type 0} (items new few : List Item) (k : ℕ) (adds : Adds P items new) where
    -- the items that were worked on, and one more
    pub chosen_next : (d : Item) → k < length items → AreChosen Q (take k items ++ slice_index_or items k d ∷ []) few
        → AreChosen Q (take (k + 1) new) few
    chosen_next d lt = subst (λ v. AreChosen Q v few)
        (sym (front_same (k + 1) items adds.added new adds.is (omega (arith, lt)) ∙ take_one items k d lt))

    pub chosen_still : k ≤ length items → AreChosen Q (take k items) few → AreChosen Q (take k new) few
    chosen_still le = subst (λ v. AreChosen Q v few) (sym (front_same k items adds.added new adds.is le))

  pub chosen_end : (items few : List Item) (k : ℕ) → length items ≤ k → AreChosen Q (take k items) few
      → AreChosen Q items few
  chosen_end items few k le = subst (λ v. AreChosen Q v few) (take_past items k le)

-- one more item that calls
pub callers_more : (flat : code_flat.Tables) (seen : List Item) (list new : List CallingItem) (c : CallingItem)
    → AreCallers flat seen list → call_of flat c.at.item ≡ Some (c.target, c.next) → new ≡ list ++ c ∷ [] →
    AreCallers flat (seen ++ c.at.item ∷ []) new
callers_more flat seen list new c are reports pushed = record {
  chosen = subst (λ v. AreChosen (Calls flat) (seen ++ c.at.item ∷ []) v)
      (sym (ap (λ v. callers_of v) pushed ∙ map_end (λ d. d.at.item) list c))
      (chosen_more (Calls flat) seen (callers_of list) c.at.item are.chosen);
  report = λ d i. by d (before_end d c list (subst (λ v. In d v) pushed i));
}
  where
    by : (d : CallingItem) → In d list ⊎ (d ≡ c) → call_of flat d.at.item ≡ Some (d.target, d.next)
    by d (inl h) = are.report d h
    by d (inr same) = subst (λ v. call_of flat v.at.item ≡ Some (v.target, v.next)) (sym same) reports
