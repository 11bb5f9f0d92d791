-- Tables of names, and the ids of the names that are used.
use Rattle.std.specs.Prelude.{◌≡◌, ℕ, suc, true, false, List, [], ◌∷◌, ◌++◌}
use Rattle.ruletable.specs.Rules.{Rules, names_of, same_name}
use Rattle.ruletable.specs.declared.table.NameCase.{NameCase}
use Rattle.fixpoint.specs.FirstUses.{news}

-- the position of the first name of a list that is the name, as names compare
pub data IsPosition (case : NameCase) (name : List ℕ) : List (List ℕ) → ℕ → Type 0 where
  here : {first : List ℕ} {names : List (List ℕ)} → same_name case name first ≡ true
      → IsPosition case name (first ∷ names) 0
  there : {first : List ℕ} {names : List (List ℕ)} {i : ℕ} → same_name case name first ≡ false
      → IsPosition case name names i → IsPosition case name (first ∷ names) (suc i)

-- the table has the name, which was added if it was not there, at that id
pub record IsAdded (old new : Rules (Unit {0})) (name : List ℕ) (id : ℕ) : Type 0 where
  pub case : new.names ≡ old.names
  pub all : names_of new ≡ names_of old ++ news old.names (names_of old) (name ∷ [])
  pub at : IsPosition old.names name (names_of new) id

-- of each use the id of its name
pub data AreIdsOf (case : NameCase) (names : List (List ℕ)) : List (List ℕ) → List ℕ → Type 0 where
  no_uses : AreIdsOf case names [] []
  one_use : {used : List ℕ} {uses : List (List ℕ)} {id : ℕ} {ids : List ℕ} → IsPosition case used names id
      → AreIdsOf case names uses ids → AreIdsOf case names (used ∷ uses) (id ∷ ids)

-- the names are those known, and after them the new ones among those seen; of each of these uses the row has the id
pub record IsScanned (case : NameCase) (known seen uses : List (List ℕ)) (names : Rules (Unit {0}))
    (row : List ℕ) : Type 0 where
  pub compares : names.names ≡ case
  pub all : names_of names ≡ known ++ news case known seen
  pub ids : AreIdsOf case (names_of names) uses row
