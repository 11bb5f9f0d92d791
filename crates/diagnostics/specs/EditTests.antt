-- A test of names that are one slip apart. Private helpers alone use it.
use Rattle.std.specs.Prelude.{ℕ, ◌==◌, nat_le, ◌&&◌, ◌||◌, Bool, true, false, List, [], ◌∷◌, bytes_eq, length}
use Rattle.std.specs.Prelude.{if◌then◌else◌}
use Rattle.std.specs.Str.{str_to_ascii_lowercase}

-- whether two lists with these first items begin with the same two in another order, and are the same from there on
abbrev pub is_swapped : ℕ → List ℕ → ℕ → List ℕ → Bool
is_swapped x [] y ys = false
is_swapped x (v ∷ xs) y [] = false
is_swapped x (v ∷ xs) y (w ∷ ys) = (x == w) && ((v == y) && bytes_eq xs ys)

abbrev pub has_one_at_most : List ℕ → Bool
has_one_at_most [] = true
has_one_at_most (x ∷ []) = true
has_one_at_most (x ∷ y ∷ ys) = false

-- whether one edit at their fronts, or none, makes two lists one
abbrev pub is_edit_at : List ℕ → List ℕ → Bool
is_edit_at [] ys = has_one_at_most ys
is_edit_at (x ∷ xs) [] = has_one_at_most (x ∷ xs)
is_edit_at (x ∷ xs) (y ∷ ys) = bytes_eq xs ys || (bytes_eq (x ∷ xs) ys || (bytes_eq xs (y ∷ ys)
    || is_swapped x xs y ys))

-- whether one edit does that where they first differ
abbrev pub is_within_one : List ℕ → List ℕ → Bool
is_within_one [] ys = has_one_at_most ys
is_within_one (x ∷ xs) [] = has_one_at_most (x ∷ xs)
is_within_one (x ∷ xs) (y ∷ ys) = if x == y then is_within_one xs ys else is_edit_at (x ∷ xs) (y ∷ ys)

-- whether two names are near
abbrev pub are_near : List ℕ → List ℕ → Bool
are_near a b = nat_le 3 (length a) && (nat_le 3 (length b)
    && is_within_one (str_to_ascii_lowercase a) (str_to_ascii_lowercase b))
