-- The names of a list that are not known, in order of first use.
use Rattle.std.specs.Prelude.{ℕ, Bool, cond, List, [], ◌∷◌, ◌++◌}
use Rattle.std.specs.List.{list_any}
use Rattle.ruletable.specs.Rules.{same_name}
use Rattle.ruletable.specs.declared.table.NameCase.{NameCase}

-- whether the name is in the list, as names compare
abbrev pub is_among : NameCase → List (List ℕ) → List ℕ → Bool
is_among case names name = list_any (same_name case name) names

-- the names of a list that are not known, each once, in the order and the spelling in which they come first
abbrev pub news : NameCase → List (List ℕ) → List (List ℕ) → List (List ℕ)
news case known [] = []
news case known (name ∷ names) = cond (is_among case known name) (news case known names)
    (name ∷ news case (known ++ name ∷ []) names)
