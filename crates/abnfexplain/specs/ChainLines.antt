-- The line that reports by which rules a name is reached.
use Rattle.std.specs.Prelude.{ℕ, zero, suc, ◌+◌, ◌-◌, List, [], ◌∷◌, ◌++◌, Option, Some, None, length, take, drop}
use Rattle.std.specs.Prelude.{codes, decimal}
use Rattle.std.specs.List.{flat_map}
use Rattle.diagnostics.specs.ShownBytes.{cut}

-- a name as it is reported
abbrev pub in_quotes : List ℕ → List ℕ
in_quotes name = codes "'" ++ (cut name ++ codes "'")

-- how many are left out, if there are any
abbrev pub left_out : ℕ → List ℕ
left_out zero = []
left_out (suc n) = codes " > " ++ (decimal (suc n) ++ codes " more")

-- names after the first one
abbrev pub names_after : List (List ℕ) → List ℕ
names_after names = flat_map (λ name. codes " > " ++ in_quotes name) names

-- the line of a chain by its first name and its last ones, with so many between them
abbrev pub ends_line : ℕ → List (List ℕ) → List ℕ
ends_line left [] = []
ends_line left (name ∷ []) = []
ends_line left (name ∷ next ∷ names) = codes "  reached by " ++ (in_quotes name
    ++ (left_out left ++ (names_after (next ∷ names) ++ codes "\n")))

-- the line of a chain of at least two names: of more than eight the first one and the last seven
abbrev pub chain_line : List (List ℕ) → List ℕ
chain_line names = ends_line (length names - 8) (take 1 names ++ drop (length names - 8 + 1) names)

-- the line of a chain, if there is one
abbrev pub chain_reported : Option (List (List ℕ)) → List ℕ
chain_reported None = []
chain_reported (Some names) = chain_line names
