-- Members of lists.
-- Serves: derive, least, mark, on_cycle, reached, are_below
use Rattle.std.proofs.Common.{◌≡◌, ℕ, zero, suc, List, [], ◌∷◌, Contains, refl, arith, ap, ⊎_elim, inl, inr, ◌⊎◌, ◌∙◌}
use Rattle.std.proofs.Common.{Some}
use Rattle.std.specs.Prelude.{slice_get}
use Rattle.std.proofs.lemmas.Option.{slice_get_within, get_or_from_slice_get, slice_get-get_or}

pub in_first : (n : ℕ) (ns : List ℕ) → Contains (n ∷ ns) n
in_first n ns = (0, omega arith, refl)

pub in_later : (n m : ℕ) (ns : List ℕ) → Contains ns m → Contains (n ∷ ns) m
in_later n m ns h = (suc h.0, omega (arith, h.1), h.2)

pub cons_cases : (n m : ℕ) (ns : List ℕ) → Contains (n ∷ ns) m → (n ≡ m) ⊎ Contains ns m
cons_cases n m ns (zero, lt, h) = inl h
cons_cases n m ns (suc k, lt, h) = inr (k, omega (arith, lt), h)

pub none_of : (m : ℕ) → Contains [] m → ⊥
none_of m h = omega (arith, h.1)

pub only_one : (n m : ℕ) → Contains (n ∷ []) m → n ≡ m
only_one n m h = ⊎_elim (λ is. is) (λ k. absurd (none_of m k)) (cons_cases n m [] h)

pub in_get : (xs : List ℕ) (i m : ℕ) → slice_get xs i ≡ Some m → Contains xs m
in_get xs i m h = (i, slice_get_within xs i m h, get_or_from_slice_get xs i m m h)

pub get_in : (xs : List ℕ) (m : ℕ) → Contains xs m → (i : ℕ) × (slice_get xs i ≡ Some m)
get_in xs m h = (h.0, slice_get-get_or xs h.0 m h.1 ∙ ap Some h.2)
