-- The line of a chain, of names that are reported by ids.
-- Serves: push_chain
use Rattle.std.proofs.Common.{◌≡◌, ◌≤◌, ◌-◌, ℕ, List, [], ◌∷◌, ◌++◌, length, map, take, drop, get_or, arith}
use Rattle.std.proofs.Common.{refl, append_assoc, codes}
use Rattle.std.proofs.lemmas.List.{length-drop, take_all}
use Rattle.abnfexplain.specs.ChainLines.{ends_line, left_out, names_after, in_quotes}

pub rest_is_whole : (ids : List ℕ) (n : ℕ) → take (length ids - n) (drop n ids) ≡ drop n ids
rest_is_whole ids n = take_all (length ids - n) (drop n ids) (let l = length-drop n ids in omega (arith, l))

pub line_by_ids : (f : ℕ → List ℕ) (ids : List ℕ) (left d : ℕ) → 2 ≤ length ids → ends_line left (map f ids)
    ≡ codes "  reached by " ++ (in_quotes (f (get_or ids 0 d)) ++ (left_out left
    ++ (names_after (map f (drop 1 ids)) ++ codes "\n")))
line_by_ids f [] left d le = absurd (omega (arith, le))
line_by_ids f (id ∷ []) left d le = absurd (omega (arith, le))
line_by_ids f (id ∷ next ∷ ids) left d le = refl

pub appended_in_turn : (o x y z v w : List ℕ) → ((((o ++ x) ++ y) ++ z) ++ v) ++ w ≡ o ++ (x ++ (y ++ (z ++ (v ++ w))))
appended_in_turn o x y z v w = simp append_assoc
