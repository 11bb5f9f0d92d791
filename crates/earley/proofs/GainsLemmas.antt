-- How what rows gain goes together.
-- Serves: judge
use Rattle.std.proofs.Common.{◌≡◌, ◌⊎◌, inl, inr, ⊎_elim, ℕ, List, [], Some, slice_get, slice_index_or, refl, sym, ◌∙◌}
use Rattle.std.proofs.Common.{subst}
use Rattle.earley.specs.RowSets.{Rows, HasAt, AddsAt}
use Rattle.flatgrammar.specs.ItemClosures.{dot}
use Rattle.flatgrammar.specs.declared.closure.DottedRule.{DottedRule}
use Rattle.flatgrammar.specs.declared.flat_item.Item.{Item}
use Rattle.earley.specs.RowItems.{IsRowItem, Gains}
use Rattle.earley.proofs.RowItemsLemmas.{contains_or}

-- nothing
pub gains_none : (dots : List DottedRule) (Q : Item → Type 0) (old : Rows)
    → ((a : Item) → Q a → IsRowItem dots old.all a)
    → Gains dots Q old old
gains_none dots Q old held = record {
  count = refl;
  all = held;
  only = λ a h. inl h;
  kept = λ a h. h;
  still = λ a h. h;
  fresh = λ a h. inl h;
  within = λ a h. inl h;
}

-- one after the other, under another name for what both gain
pub gains_both : (dots : List DottedRule) (P Q R : Item → Type 0) (old mid new : Rows) → Gains dots P old mid
    → Gains dots Q mid new → ((a : Item) → R a → P a ⊎ Q a) → ((a : Item) → P a → R a) → ((a : Item) → Q a → R a)
    → Gains dots R old new
gains_both dots P Q R old mid new p q cases left right = record {
  count = q.count ∙ p.count;
  all = λ a h. ⊎_elim (λ g. q.kept a (p.all a g)) (λ g. q.all a g) (cases a h);
  only = λ a h. ⊎_elim (λ g. ⊎_elim (λ f. inl f) (λ f. inr (left a f)) (p.only a g)) (λ g. inr (right a g)) (q.only a
      h);
  kept = λ a h. q.kept a (p.kept a h);
  still = λ a h. q.still a (p.still a h);
  fresh = λ a h. ⊎_elim (λ g. ⊎_elim (λ f. inl f) (λ f. inr (q.still a f)) (p.fresh a g)) (λ g. inr g) (q.fresh a h);
  within = λ a h. ⊎_elim (λ g. ⊎_elim (λ f. inl f) (λ f. inr (q.kept a f)) (p.within a g)) (λ g. inr g) (q.within a h);
}

pub gains_as : (dots : List DottedRule) (P Q : Item → Type 0) (old new : Rows) → ((a : Item) → P a → Q a)
    → ((a : Item) → Q a → P a) → Gains dots P old new → Gains dots Q old new
gains_as dots P Q old new to back p = record {
  count = p.count;
  all = λ a h. p.all a (back a h);
  only = λ a h. ⊎_elim (λ g. inl g) (λ g. inr (to a g)) (p.only a h);
  kept = p.kept;
  still = p.still;
  fresh = p.fresh;
  within = p.within;
}

-- under a name for more, all of which is there
pub gains_more : (dots : List DottedRule) (P Q : Item → Type 0) (old new : Rows) → ((a : Item) → P a → Q a)
    → ((a : Item) → Q a → P a ⊎ IsRowItem dots new.all a) → Gains dots P old new → Gains dots Q old new
gains_more dots P Q old new to cases p = record {
  count = p.count;
  all = λ a h. ⊎_elim (λ g. p.all a g) (λ g. g) (cases a h);
  only = λ a h. ⊎_elim (λ g. inl g) (λ g. inr (to a g)) (p.only a h);
  kept = p.kept;
  still = p.still;
  fresh = p.fresh;
  within = p.within;
}

-- the numbers that one dotted rule got
pub gains_at : (dots : List DottedRule) (p : ℕ) (P : ℕ → Type 0) (old new : Rows) → AddsAt p P old new
    → Gains dots (λ a. (slice_get dots p ≡ Some (dot a.node a.step)) × P a.origin) old new
gains_at dots p P old new adds = record {
  count = adds.count;
  all = λ a h. record { position = p; is = h.0; has = (adds.all p a.origin).1 (inr (refl, h.1)) };
  only = λ a h. ⊎_elim (λ g. inl (record { position = h.position; is = h.is; has = g }))
      (λ g. inr (subst (λ v. slice_get dots v ≡ Some (dot a.node a.step)) g.0 h.is, g.1))
      ((adds.all h.position a.origin).0 h.has);
  kept = λ a h. record { position = h.position; is = h.is; has = (adds.all h.position a.origin).1 (inl h.has) };
  still = λ a h. record { position = h.position; is = h.is; has = (adds.pending h.position a.origin).1 (inl h.has) };
  fresh = λ a h. ⊎_elim (λ g. inl (record { position = h.position; is = h.is; has = g })) (λ g. new_or a h g.0 g.1)
      ((adds.all h.position a.origin).0 h.has);
  within = λ a h. ⊎_elim (λ g. inl (record { position = h.position; is = h.is; has = g }))
      (λ g. inr (record { position = h.position; is = h.is; has = (adds.all h.position a.origin).1 (inr (g.0, g.1)) }))
      ((adds.pending h.position a.origin).0 h.has);
}
  where
    new_or : (a : Item) (h : IsRowItem dots new.all a) → h.position ≡ p → P a.origin
        → IsRowItem dots old.all a ⊎ IsRowItem dots new.pending a
    new_or a h same has = ⊎_elim
        (λ there. inl (record {
          position = h.position;
          is = h.is;
          has = subst (λ v. HasAt old.all v a.origin) (sym same) there;
        }))
        (λ none. inr (record {
          position = h.position;
          is = h.is;
          has = (adds.pending h.position a.origin).1 (inr (same, has, none));
        }))
        (contains_or (slice_index_or old.all p []) a.origin)
