-- What holds of each element of a list.
-- Serves: joined_reading
use Rattle.std.proofs.Common.{ℕ, zero, suc, List, [], ◌∷◌, ◌++◌, take, drop}

-- P holds of each of them
pub data Each {X : Type 0} (P : X → Type 0) : List X → Type 0 where
  each_none : Each P []
  each_next : {x : X} {xs : List X} → P x → Each P xs → Each P (x ∷ xs)

module _ {X : Type 0} {P : X → Type 0} where
  pub each-take : (n : ℕ) {xs : List X} → Each P xs → Each P (take n xs)
  each-take zero h = each_none
  each-take (suc n) each_none = each_none
  each-take (suc n) (each_next p h) = each_next p (each-take n h)

  pub each-drop : (n : ℕ) {xs : List X} → Each P xs → Each P (drop n xs)
  each-drop zero h = h
  each-drop (suc n) each_none = each_none
  each-drop (suc n) (each_next p h) = each-drop n h

  pub each-both : {xs ys : List X} → Each P xs → Each P ys → Each P (xs ++ ys)
  each-both each_none k = k
  each-both (each_next p h) k = each_next p (each-both h k)
