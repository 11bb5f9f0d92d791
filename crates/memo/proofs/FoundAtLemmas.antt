-- What `found_at` says of the entries of a list.
-- Serves: Packrat::match_unit of packrat
use Rattle.std.proofs.Common.{◌≡◌, ℕ, Bool, true, false, ◌&&◌, ◌==◌, if◌then◌else◌, List, [], ◌∷◌, ◌++◌, Some, refl}
use Rattle.std.specs.Option.{option_or}
use Rattle.std.proofs.lemmas.Bool.{eqb-true, eq-eqb, and_parts, and_from}
use Rattle.memo.specs.Entries.{Entry, found_at}

-- whether the entry is of that node and position
abbrev pub is_of : Entry → ℕ → ℕ → Bool
is_of c n p = (c.node == n) && (c.position == p)

pub is_own : (c : Entry) (n p : ℕ) → is_of c n p ≡ true → (c.node ≡ n) × (c.position ≡ p)
is_own c n p h = let both = and_parts (c.node == n) (c.position == p) h in
    (eqb-true c.node n both.0, eqb-true c.position p both.1)

pub is_of_own : (c : Entry) → is_of c c.node c.position ≡ true
is_of_own c = and_from (c.node == c.node) (c.position == c.position) (eq-eqb c.node c.node refl)
    (eq-eqb c.position c.position refl)

-- what two lists have for the evaluation: what the first has, or else the second
pub found_in_both : (xs ys : List Entry) (n p : ℕ)
    → found_at (xs ++ ys) n p ≡ option_or (found_at xs n p) (found_at ys n p)
found_in_both [] ys n p = refl
found_in_both (c ∷ xs) ys n p = by (is_of c n p) (found_in_both xs ys n p)
  where
    by : (v : Bool) → found_at (xs ++ ys) n p ≡ option_or (found_at xs n p) (found_at ys n p) →
        (if v then Some c.found else found_at (xs ++ ys) n p)
        ≡ option_or (if v then Some c.found else found_at xs n p) (found_at ys n p)
    by true is = refl
    by false is = is
