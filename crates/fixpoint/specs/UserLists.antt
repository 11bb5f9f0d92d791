-- Lists that share one vector of links. The private calls of `derive` alone use these words.
use Rattle.std.specs.Prelude.{◌≡◌, ℕ, ◌+◌, ◌<◌, ◌≤◌, List, [], ◌∷◌, ◌++◌, length, slice_get, slice_index_or, Some}
use Rattle.std.specs.Prelude.{Contains}
use Rattle.fixpoint.specs.declared.needs.ListEntry.{ListEntry}
use Rattle.fixpoint.specs.declared.needs.Users.{Users}
use Rattle.fixpoint.specs.Demands.{Demand}
use Rattle.fixpoint.specs.NeedCounts.{Added, AreUsersTo, AreUsers, Reported}
use Rattle.fixpoint.specs.StepRows.{row_at}

-- the list that begins with link k, where k + 1 is given; a list that begins with 0 is empty
pub data Chain (links : List ListEntry) : ℕ → List ℕ → Type 0 where
  end : Chain links 0 []
  link : {k : ℕ} {l : ListEntry} {ns : List ℕ} → slice_get links k ≡ Some l → l.next ≤ k → Chain links l.next ns →
      Chain links (k + 1) (l.user ∷ ns)

-- where the list of m begins
abbrev pub first_of : Users → ℕ → ℕ
first_of users m = slice_index_or users.firsts.items m 0

-- each number's list is its row
pub record AreLists (users : Users) (rows : List (List ℕ)) : Type 0 where
  pub count : length users.firsts.items ≡ length rows
  pub list : (m : ℕ) → Chain users.links.items (first_of users m) (row_at rows m)

-- the lists contain only numbers below the count
pub record AreListsWithin (users : Users) (count : ℕ) : Type 0 where
  pub rows : List (List ℕ)
  pub lists : AreLists users rows
  pub within : (m n : ℕ) → Contains (row_at rows m) n → n < count

-- n was added to these rows
pub record HoldAdded (row : List ℕ) (n : ℕ) (users : Users) (old : List (List ℕ)) : Type 0 where
  pub rows : List (List ℕ)
  pub lists : AreLists users rows
  pub added : Added row n old rows

-- n was added to the lists of the numbers of the row, as often as each stands there
pub record AddsAll (row : List ℕ) (n : ℕ) (users users' : Users) : Type 0 where
  pub count : length users'.firsts.items ≡ length users.firsts.items
  pub all : (rows : List (List ℕ)) → AreLists users rows → HoldAdded row n users' rows

-- the list of each number contains the numbers below i that it is needed by, as often as they name it
pub record HoldUsersTo (needs : List Demand) (users : Users) (i : ℕ) : Type 0 where
  pub rows : List (List ℕ)
  pub lists : AreLists users rows
  pub needed : AreUsersTo needs rows i

-- the list of each number contains those that it is needed by, as often as they name it
pub record HoldUsers (needs : List Demand) (users : Users) : Type 0 where
  pub rows : List (List ℕ)
  pub lists : AreLists users rows
  pub needed : AreUsers needs rows

-- a prefix of the row was processed, and its list goes on with the rest
pub record IsReporting (links : List ListEntry) (at : ℕ) (row left order left' order' : List ℕ) : Type 0 where
  pub front : List ℕ
  pub rest : List ℕ
  pub is : row ≡ front ++ rest
  pub list : Chain links at rest
  pub reported : Reported front left order left' order'
