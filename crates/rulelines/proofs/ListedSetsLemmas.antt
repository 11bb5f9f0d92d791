-- Symbols of lines, by their keys.
-- Serves: first, after, of_samples
use Rattle.std.proofs.Common.{◌≡◌, ◌⊎◌, inl, inr, ◌∙◌, refl, sym, subst, arith, eqb, ℕ, ◌<◌, ◌≤◌, Bool, true, false}
use Rattle.std.proofs.Common.{List}
use Rattle.std.proofs.Common.{length, get_or, ◌&&◌}
use Rattle.std.proofs.lemmas.Bool.{cases_lt}
use Rattle.std.proofs.lemmas.Bool.Decides.{Decides-eqb}
use Rattle.std.proofs.lemmas.List.{get_or_default}
use Rattle.std.proofs.lemmas.List.Folds.{Any-from_list_any, list_any_at}
use Rattle.std.proofs.lemmas.List.Sorted.{searched}
use Rattle.std.specs.List.{list_any}
use Rattle.std.specs.List.Sorted.{IsBinarySearchResult, IsStrictlyIncreasing}
use Rattle.std.specs.Ordering.{nat_cmp}
use Rattle.std.specs.Prelude.{Contains, Err, Ok, Result}
use Rattle.std.specs.Result.{is_ok}
use Rattle.flatgrammar.proofs.AreClassesLemmas.{rising_up}

-- a key of a list
pub any_contained : (keys : List ℕ) (key : ℕ) → list_any (λ k. eqb k key) keys ≡ true → Contains keys key
any_contained keys key is =
    let g = Any-from_list_any (λ (k : ℕ). eqb k key) keys is in
    subst (λ v. Contains keys v) ((Decides-eqb g.1 key).0 g.4) (g.0, g.2, g.3)

pub contained_any : (keys : List ℕ) (key : ℕ) → Contains keys key → list_any (λ k. eqb k key) keys ≡ true
contained_any keys key h =
    list_any_at (λ (k : ℕ). eqb k key) keys h.0 key h.1
    (subst (λ v. eqb v key ≡ true) (sym h.2) ((Decides-eqb key key).1 refl))

-- by a search
not_any : (keys : List ℕ) (key i : ℕ) → ((k : ℕ) → k < i → get_or keys k 0 < key)
    → ((k : ℕ) → i ≤ k → k < length keys → key < get_or keys k 0) → Contains keys key → ⊥
not_any keys key i low high h = by (cases_lt h.0 i)
  where
    is : get_or keys h.0 0 ≡ key
    is = get_or_default keys h.0 0 key h.1 ∙ h.2

    by : (h.0 < i) ⊎ (i ≤ h.0) → ⊥
    by (inl less) = let lt = low h.0 less in let same = is in omega (arith, lt, same)
    by (inr more) = let lt = high h.0 more h.1 in let same = is in omega (arith, lt, same)

none_is_false : (b : Bool) → (b ≡ true → ⊥) → b ≡ false
none_is_false true none = absurd (none refl)
none_is_false false none = refl

pub found_key : (keys : List ℕ) (key : ℕ) (r : Result ℕ ℕ) → IsStrictlyIncreasing keys
    → IsBinarySearchResult (λ y. nat_cmp y key) keys r → is_ok r ≡ list_any (λ k. eqb k key) keys
found_key keys key (Ok i) rise position =
    let g = searched keys key (Ok i) position (λ i j le lt. rising_up keys rise i j 0 le lt) in
    sym (contained_any keys key (i, g.0, get_or_default keys i key 0 g.0 ∙ g.1))
found_key keys key (Err i) rise position =
    let g = searched keys key (Err i) position (λ i j le lt. rising_up keys rise i j 0 le lt) in
    sym (none_is_false (list_any (λ k. eqb k key) keys)
    (λ is. not_any keys key i g.1 g.2 (any_contained keys key is)))

pub no_symbol_there : (a b : Bool) → b ≡ false → false ≡ (a && b)
no_symbol_there true b off = sym off
no_symbol_there false b off = refl

pub symbol_there : (a b : Bool) → b ≡ true → a ≡ (a && b)
symbol_there true b on = sym on
symbol_there false b on = refl
