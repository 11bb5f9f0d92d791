-- Lists of numbers by name, and the positions of what passes a test. They serve private helpers alone.
use Rattle.std.specs.Prelude.{ℕ, suc, Bool, List, [], ◌∷◌, Option, Some, None, if◌then◌else◌, slice_get}
use Rattle.std.specs.Prelude.{option_to_list}
use Rattle.std.specs.List.{find, flat_map}
use Rattle.std.proofs.Common.{Vec, Global}
use Rattle.ruletable.specs.Rules.{Rule, Rules, same_name}

-- the list of a row, or none
abbrev pub list_of : Option (Rule (Vec ℕ Global)) → List ℕ
list_of None = []
list_of (Some row) = row.body.items

-- the numbers that are listed for a name
abbrev pub numbers_for : Rules (Vec ℕ Global) → List ℕ → List ℕ
numbers_for lists name = list_of (find (λ row. same_name lists.names name row.name) lists.rules)

-- the positions, counted from that number, of what passes
abbrev pub positions_from : {A : Type 0} → ℕ → (A → Bool) → List A → List ℕ
positions_from n passes [] = []
positions_from n passes (x ∷ xs) =
    if passes x then n ∷ positions_from (suc n) passes xs else positions_from (suc n) passes xs

-- what has these positions
abbrev pub items_at : {A : Type 0} → List A → List ℕ → List A
items_at xs indexes = flat_map (λ k. option_to_list (slice_get xs k)) indexes
