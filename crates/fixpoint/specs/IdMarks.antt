-- Marks on ids, one for each of the first ids, and what they choose of a list.
use Rattle.std.specs.Prelude.{◌≡◌, ◌↔◌, ℕ, ◌<◌, Bool, true, false, List, [], ◌∷◌, length}
use Rattle.fixpoint.specs.NumberMarks.{IsMarked}

-- those of a list that are marked
abbrev pub chosen : {A : Type 0} → List Bool → List A → List A
chosen marks [] = []
chosen [] (x ∷ xs) = []
chosen (true ∷ marks) (x ∷ xs) = x ∷ chosen marks xs
chosen (false ∷ marks) (x ∷ xs) = chosen marks xs

-- exactly those ids below the count are marked of which P holds
pub record AreMarks (P : ℕ → Type 0) (count : ℕ) (marks : List Bool) : Type 0 where
  pub count_is : length marks ≡ count
  pub exact : (id : ℕ) → id < count → (IsMarked marks id ↔ P id)
