-- Numbers that wait for others: how many more each of them needs.
use Rattle.std.specs.Prelude.{◌≡◌, ◌≢◌, ℕ, zero, suc, ◌+◌, ◌-◌, ◌<◌, ◌≤◌, List, [], ◌∷◌, ◌++◌, length, map, take}
use Rattle.std.specs.Prelude.{nat_eq, slice_get, slice_index_or, if◌then◌else◌, Some, Contains}
use Rattle.fixpoint.specs.StepRows.{row_at}
use Rattle.fixpoint.specs.Demands.{Demand, All, One, row_of}

-- 1 where the numbers are equal, else 0
abbrev pub once : ℕ → ℕ → ℕ
once x m = if nat_eq x m then 1 else 0

-- how often m stands in a list
abbrev pub times : List ℕ → ℕ → ℕ
times [] m = 0
times (x ∷ xs) m = once x m + times xs m

-- how many entries of a row stand in an order that has no number twice
abbrev pub met : List ℕ → List ℕ → ℕ
met order [] = 0
met order (m ∷ row) = times order m + met order row

-- how many of its numbers a need asks for
abbrev pub count_of : Demand → ℕ
count_of (All row) = length row
count_of (One row) = 1

-- how many numbers each need asks for
abbrev pub counts_of : List Demand → List ℕ
counts_of needs = map count_of needs

-- how many of these aren't 0
abbrev pub waiting : List ℕ → ℕ
waiting [] = 0
waiting (zero ∷ left) = waiting left
waiting (suc k ∷ left) = waiting left + 1

-- how many more a number needs, and 1 where there is no such number
abbrev pub left_of : List ℕ → ℕ → ℕ
left_of left n = slice_index_or left n 1

-- n was added to the rows of the numbers of this list, as often as each stands there
pub record Added (row : List ℕ) (n : ℕ) (users users' : List (List ℕ)) : Type 0 where
  pub count : length users' ≡ length users
  pub own : (m : ℕ) → m < length users → times (row_at users' m) n ≡ times (row_at users m) n + times row m
  pub other : (m k : ℕ) → k ≢ n → times (row_at users' m) k ≡ times (row_at users m) k

-- of each number the numbers below i that it is needed by, as often as they name it
pub record AreUsersTo (needs : List Demand) (users : List (List ℕ)) (i : ℕ) : Type 0 where
  pub count : length users ≡ length needs
  pub needed : (n m : ℕ) (need : Demand) → n < i → m < length needs → slice_get needs n ≡ Some need →
      times (row_at users m) n ≡ times (row_of need) m
  pub none : (n m : ℕ) → i ≤ n → times (row_at users m) n ≡ 0

-- of each number those that it is needed by, as often as they name it
pub record AreUsers (needs : List Demand) (users : List (List ℕ)) : Type 0 where
  pub count : length users ≡ length needs
  pub needed : (n m : ℕ) (need : Demand) → m < length needs → slice_get needs n ≡ Some need →
      times (row_at users m) n ≡ times (row_of need) m
  pub within : (n m : ℕ) → Contains (row_at users m) n → n < length needs

-- exactly those stand in the order that need no more, each once
pub record IsQueue (left order : List ℕ) : Type 0 where
  pub here : (n : ℕ) → left_of left n ≡ 0 → times order n ≡ 1
  pub not_yet : (n : ℕ) → 0 < left_of left n → times order n ≡ 0
  pub total : waiting left + length order ≡ length left

-- each of these needs fewer, by as often as it stands among them, and those that need no more were added to the order
pub record Reported (users left order left' order' : List ℕ) : Type 0 where
  pub count : length left' ≡ length left
  pub fewer : (n : ℕ) → n < length left → left_of left' n ≡ left_of left n - times users n
  pub queue : IsQueue left' order'
  pub added : List ℕ
  pub grows : order' ≡ order ++ added

-- what stands before position i of the order was taken off what is needed
pub record IsComing (needs : List Demand) (left order : List ℕ) (i : ℕ) : Type 0 where
  pub count : length left ≡ length needs
  pub queue : IsQueue left order
  pub rest : (n : ℕ) (need : Demand) → slice_get needs n ≡ Some need →
      left_of left n ≡ count_of need - met (take i order) (row_of need)
  pub earned : (k n : ℕ) (need : Demand) → slice_get order k ≡ Some n → slice_get needs n ≡ Some need →
      count_of need ≤ met (take k order) (row_of need)
