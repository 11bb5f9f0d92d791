-- Phrases of which one is meant.
use Rattle.std.specs.Prelude.{ℕ, ◌==◌, List, [], ◌∷◌, ◌++◌, length, codes, if◌then◌else◌}

-- what stands after a phrase, before so many others
abbrev pub mark_before : ℕ → List ℕ
mark_before n = if n == 0 then [] else if n == 1 then codes " or " else codes ", "

-- `A, B or C`
abbrev pub listed : List (List ℕ) → List ℕ
listed [] = []
listed (p ∷ ps) = p ++ (mark_before (length ps) ++ listed ps)
