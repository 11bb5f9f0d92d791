-- Evaluations that are sorted, each once.
-- Serves: farthest_failure
use Rattle.std.proofs.Common.{◌≡◌, inl, inr, ℕ, zero, suc, Bool, true, false, cond, ◌&&◌, ◌==◌}
use Rattle.std.proofs.Common.{nat_lt, List, [], ◌∷◌, Some, refl, sym, ◌∙◌, ap, subst, arith}
use Rattle.std.proofs.Common.{Contains, IsPermutation}
use Rattle.std.specs.Prelude.{slice_get}
use Rattle.std.specs.Cmp.{IsEquivalence, IsTotalOrder}
use Rattle.std.specs.List.{AllByRecursion, dedup}
use Rattle.std.specs.List.Sorted.{IsSorted, IsStrictlySortedBy}
use Rattle.std.specs.Ordering.{eq_by_cmp, is_eq, ordering_then, nat_cmp}
use Rattle.std.proofs.lemmas.Bool.{eqb-true, and_parts, ltb-true}
use Rattle.std.proofs.lemmas.Cmp.{eq_by_cmp_equiv, nat_cmp_total, on_total, then_total}
use Rattle.std.proofs.lemmas.List.Kept.{Contains-dedup, Contains-from_dedup, IsStrictlySortedBy-dedup}
use Rattle.std.proofs.lemmas.List.Sorted.{Contains-permutation, IsPermutation-sym}
use Rattle.std.proofs.lemmas.Option.{slice_get_within, get_or_from_slice_get, slice_get-get_or}
use Rattle.std.specs.declared.cmp.Ordering.{Ordering}
use Rattle.std.specs.declared.cmp.Ordering.TheVariants.{Less, Equal, Greater}
use Rattle.matchfailure.specs.declared.farthest.visit.Visit.{Visit}
use Rattle.matchfailure.specs.VisitLists.{ListsVisit, StandsBefore, Ascends}
use Rattle.matchfailure.proofs.AddsVisitsLemmas.{is_visit}

abbrev pub visit_cmp : Visit → Visit → Ordering
visit_cmp v w = ordering_then (nat_cmp v.node w.node) (nat_cmp v.position w.position)

abbrev pub same_eval : Visit → Visit → Bool
same_eval v w = (v.node == w.node) && (v.position == w.position)

-- members by position and by `Contains`
contains_listed : (vs : List Visit) (v : Visit) → ListsVisit vs v → Contains vs v
contains_listed vs v h = (h.0, slice_get_within vs h.0 v h.1, get_or_from_slice_get vs h.0 v v h.1)

lists_contained : (vs : List Visit) (v : Visit) → Contains vs v → ListsVisit vs v
lists_contained vs v h = (h.0, slice_get-get_or vs h.0 v h.1 ∙ ap Some h.2)

permutation_lists : (vs ws : List Visit) → IsPermutation vs ws → (v : Visit) → ListsVisit vs v → ListsVisit ws v
permutation_lists vs ws p v h = lists_contained ws v (Contains-permutation vs ws v p (contains_listed vs v h))

permutation_back : (vs ws : List Visit) → IsPermutation vs ws → (v : Visit) → ListsVisit ws v → ListsVisit vs v
permutation_back vs ws p v h = permutation_lists ws vs (IsPermutation-sym vs ws p) v h

at_all : (P : Visit → Type 0) (vs : List Visit) → AllByRecursion P vs → (k : ℕ) (v : Visit) → slice_get vs k ≡ Some v
    → P v
at_all P [] h k v g = absurd (cc g)
at_all P (u ∷ vs) h zero v g = let same : u ≡ v = cc g in subst P same h.0
at_all P (u ∷ vs) h (suc k) v g = at_all P vs h.1 k v g

less_stands : (v w : Visit) → visit_cmp v w ≡ Less → StandsBefore v w
less_stands v w h = by (nat_lt v.node w.node) (v.node == w.node) (nat_lt v.position w.position) refl refl refl h
  where
    by : (a b c : Bool) → nat_lt v.node w.node ≡ a → (v.node == w.node) ≡ b → nat_lt v.position w.position ≡ c
        → ordering_then (cond a Less (cond b Equal Greater)) (cond c Less (cond (v.position == w.position) Equal
        Greater))
        ≡ Less → StandsBefore v w
    by true b c p q r h = inl (ltb-true v.node w.node p)
    by false true true p q r h = inr (eqb-true v.node w.node q, ltb-true v.position w.position r)
    by false true false p q r h = last (v.position == w.position) h
      where
        last : (e : Bool) → cond e Equal Greater ≡ Less → StandsBefore v w
        last true h = absurd (cc h)
        last false h = absurd (cc h)
    by false false c p q r h = absurd (cc h)

visit_total : IsTotalOrder visit_cmp
visit_total = then_total (on_total (λ v. v.node) nat_cmp_total) (on_total (λ v. v.position) nat_cmp_total)

visit_ties : (v w : Visit) → same_eval v w ≡ eq_by_cmp visit_cmp v w
visit_ties v w = by (nat_lt v.node w.node) (v.node == w.node) (nat_lt v.position w.position) (v.position == w.position)
    refl refl refl refl
  where
    by : (a b c d : Bool) → nat_lt v.node w.node ≡ a → (v.node == w.node) ≡ b → nat_lt v.position w.position ≡ c
        → (v.position == w.position) ≡ d → (b && d)
        ≡ is_eq (ordering_then (cond a Less (cond b Equal Greater)) (cond c Less (cond d Equal Greater)))
    by true true c d p q r s =
        absurd (omega (arith, ltb-true v.node w.node p, eqb-true v.node w.node q))
    by true false c d p q r s = refl
    by false true true true p q r s =
        absurd (omega (arith, ltb-true v.position w.position r, eqb-true v.position w.position s))
    by false true true false p q r s = refl
    by false true false true p q r s = refl
    by false true false false p q r s = refl
    by false false c d p q r s = refl

same_total : IsEquivalence same_eval
same_total = subst IsEquivalence (λ i v w. sym (visit_ties v w) i) (eq_by_cmp_equiv visit_total)

same_is : (v w : Visit) → same_eval v w ≡ true → v ≡ w
same_is v w h =
    let both = and_parts (v.node == w.node) (v.position == w.position) h in
    is_visit v w.node w.position (eqb-true v.node w.node both.0) (eqb-true v.position w.position both.1)

strict_at : (vs : List Visit) → IsStrictlySortedBy visit_cmp vs → Ascends vs
unfolding IsStrictlySortedBy
strict_at [] d i j v w lt h g = absurd (cc h)
strict_at (u ∷ vs) d i zero v w lt h g = absurd (omega arith)
strict_at (u ∷ vs) d zero (suc j) v w lt h g =
    let same : u ≡ v = cc h in
    subst (λ z. StandsBefore z w) same (less_stands u w (at_all (λ z. visit_cmp u z ≡ Less) vs d.0 j w g))
strict_at (u ∷ vs) d (suc i) (suc j) v w lt h g = strict_at vs d.1 i j v w (omega arith) h g

pub sorted_ascends : (vs : List Visit) → IsSorted visit_cmp vs → Ascends (dedup same_eval vs)
sorted_ascends vs sorted = strict_at (dedup same_eval vs) (IsStrictlySortedBy-dedup visit_total visit_ties vs sorted)

module _ (olds vs : List Visit) where
  pub sorted_lists : IsPermutation olds vs → (v : Visit) → ListsVisit olds v → ListsVisit (dedup same_eval vs) v
  sorted_lists p v h = lists_contained (dedup same_eval vs) v
      (Contains-dedup same_total same_is vs v (contains_listed vs v (permutation_lists olds vs p v h)))

  pub sorted_back : IsPermutation olds vs → (v : Visit) → ListsVisit (dedup same_eval vs) v → ListsVisit olds v
  sorted_back p v h = permutation_back olds vs p v
      (lists_contained vs v (Contains-from_dedup same_eval vs v (contains_listed (dedup same_eval vs) v h)))
