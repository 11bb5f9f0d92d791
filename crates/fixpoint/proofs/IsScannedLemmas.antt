-- Names and their ids, with one use more.
-- Serves: add_use, check_peg, check_abnf (notes, sound)
use Rattle.std.proofs.Common.{◌≡◌, ℕ, zero, suc, ◌+◌, ◌==◌, inl, inr, ◌||◌, List, [], ◌∷◌, ◌++◌, map, take, position}
use Rattle.std.proofs.Common.{Some, refl, sym, ◌∙◌, ap, subst, append_assoc, append-nil, add-one}
use Rattle.std.specs.Prelude.{slice_get}
use Rattle.std.specs.List.{list_any, flat_map}
use Rattle.std.proofs.lemmas.Bool.{cases_Bool}
use Rattle.ruletable.specs.Rules.{Rules, names_of, same_name}
use Rattle.ruletable.specs.declared.table.NameCase.{NameCase}
use Rattle.fixpoint.specs.FirstUses.{is_among, news}
use Rattle.fixpoint.specs.NameUses.{IsPosition, IsAdded, AreIdsOf, no_uses, one_use, IsScanned}
use Rattle.fixpoint.proofs.IsPositionLemmas.{position_append, position_of, same_position}

-- the uses in one body more
used_suc : {X : Type 0} (f : X → List (List ℕ)) (xs : List X) (i : ℕ) (used : List (List ℕ))
    → slice_get (map f xs) i ≡ Some used → flat_map f (take (suc i) xs) ≡ flat_map f (take i xs) ++ used
used_suc f [] i used at = absurd (cc at)
used_suc f (x ∷ xs) zero used at = let same : f x ≡ used = cc at in append-nil (f x) ∙ same
used_suc f (x ∷ xs) (suc i) used at = ap (λ l. f x ++ l) (used_suc f xs i used at)
    ∙ sym (append_assoc (f x) (flat_map f (take i xs)) used)

pub used_next : {X : Type 0} (f : X → List (List ℕ)) (xs : List X) (i : ℕ) (used : List (List ℕ))
    → slice_get (map f xs) i ≡ Some used → flat_map f (take (i + 1) xs) ≡ flat_map f (take i xs) ++ used
used_next f xs i used at = ap (λ (k : ℕ). flat_map f (take k xs)) (add-one i) ∙ used_suc f xs i used at

module _ (case : NameCase) where
  -- the new names of two lists
  pub news_append : (known a b : List (List ℕ)) → news case known (a ++ b) ≡ news case known a
      ++ news case (known ++ news case known a) b
  news_append known [] b = ap (λ l. news case l b) (sym (append-nil known))
  news_append known (x ∷ a) b = elim (cases_Bool (is_among case known x)) [
    | inl e ↦ rw e (news_append known a b)
    | inr e ↦ rw e (ap (λ l. x ∷ l) (news_append (known ++ x ∷ []) a b
        ∙ ap (λ l. news case (known ++ x ∷ []) a ++ news case l b)
        (append_assoc known (x ∷ []) (news case (known ++ x ∷ []) a))))
  ]

  -- the ids of uses
  pub ids_more : {names uses : List (List ℕ)} {ids : List ℕ} (more : List (List ℕ)) → AreIdsOf case names uses ids
      → AreIdsOf case (names ++ more) uses ids
  ids_more more no_uses = no_uses
  ids_more more (one_use p rest) = one_use (position_append case more p) (ids_more more rest)

  ids_push : {names uses : List (List ℕ)} {ids : List ℕ} {used : List ℕ} {id : ℕ} → AreIdsOf case names uses ids
      → IsPosition case used names id → AreIdsOf case names (uses ++ used ∷ []) (ids ++ id ∷ [])
  ids_push no_uses p = one_use p no_uses
  ids_push (one_use q rest) p = one_use q (ids_push rest p)

  -- one use more in a row
  pub scan_more : (known seen uses : List (List ℕ)) (old new : Rules (Unit {0})) (row : List ℕ) (name : List ℕ) (id : ℕ)
      → IsScanned case known seen uses old row → IsAdded old new name id →
      IsScanned case known (seen ++ name ∷ []) (uses ++ name ∷ []) new (row ++ id ∷ [])
  scan_more known seen uses old new row name id s a =
      let all = rw s.compares at a.all in
      let at = rw s.compares at a.at in
      record {
        compares = a.case ∙ s.compares;
        all = all ∙ ap (λ l. l ++ news case l (name ∷ [])) s.all ∙ append_assoc known (news case known seen)
            (news case (known ++ news case known seen) (name ∷ []))
            ∙ ap (λ l. known ++ l) (sym (news_append known seen (name ∷ [])));
        ids = ids_push (subst (λ l. AreIdsOf case l uses row) (sym all)
            (ids_more (news case (names_of old) (name ∷ [])) s.ids)) at;
      }

  -- later names change no id
  pub scan_grows : (known seen more : List (List ℕ)) (old new : List (List ℕ)) → old ≡ known ++ news case known seen
      → new ≡ known ++ news case known (seen ++ more) →
      new ≡ old ++ news case (known ++ news case known seen) more
  scan_grows known seen more old new is now =
      now ∙ ap (λ l. known ++ l) (news_append known seen more)
      ∙ sym (append_assoc known (news case known seen) (news case (known ++ news case known seen) more))
      ∙ ap (λ l. l ++ news case (known ++ news case known seen) more) (sym is)

  -- the id of a known name is among those of the uses exactly where the name is
  ids_among : {names uses : List (List ℕ)} {ids : List ℕ} (name : List ℕ) (id : ℕ) → IsPosition case name names id
      → AreIdsOf case names uses ids →
      list_any (λ other. other == id) ids ≡ is_among case uses name
  ids_among name id at no_uses = refl
  ids_among name id at (one_use {used = used} {uses = uses} {id = first} {ids = ids} p rest) =
      ap (λ b. b || list_any (λ other. other == id) ids) (same_position case used name p at)
      ∙ ap (λ b. same_name case name used || b) (ids_among name id at rest)

  pub known_among : (known seen uses : List (List ℕ)) (names : Rules (Unit {0})) (row : List ℕ) (name : List ℕ) (id : ℕ)
      → IsScanned case known seen uses names row →
      position (same_name case name) known ≡ Some id → list_any (λ other. other == id) row ≡ is_among case uses name
  known_among known seen uses names row name id s own =
      ids_among name id (subst (λ l. IsPosition case name l id) (sym s.all)
      (position_append case (news case known seen) (position_of case name known id own))) s.ids
