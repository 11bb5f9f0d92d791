-- What numbers need, and the order in which the numbers of the least set enter it.
use Rattle.std.specs.Prelude.{◌≡◌, ℕ, ◌<◌, ◌≤◌, List, length, map, take, slice_get, Some, Contains}
use Rattle.fixpoint.specs.declared.needs.Need as declared
use Rattle.fixpoint.specs.declared.needs.Need.TheVariants as code
use Rattle.fixpoint.specs.declared.owned.OwnedNeed as owned
use Rattle.fixpoint.specs.declared.owned.OwnedNeed.TheVariants as own

-- what a number needs before it enters the set: all of these numbers, or one of them
pub data Demand : Type 0 where
  All : List ℕ → Demand
  One : List ℕ → Demand

-- what a need of the code asks for
abbrev pub demand_of : declared.Need → Demand
demand_of (code.All row) = All row.now
demand_of (code.One row) = One row.now

-- what each need of the code asks for
abbrev pub demands_of : List declared.Need → List Demand
demands_of needs = map demand_of needs

-- what a need with a vector of its own asks for
abbrev pub owned_demand_of : owned.OwnedNeed → Demand
owned_demand_of (own.All row) = All row.items
owned_demand_of (own.One row) = One row.items

-- what each of them asks for
abbrev pub owned_demands_of : List owned.OwnedNeed → List Demand
owned_demands_of needs = map owned_demand_of needs

-- the numbers that a need names
abbrev pub row_of : Demand → List ℕ
row_of (All row) = row
row_of (One row) = row

-- the numbers of the order meet the need
abbrev pub IsMet : List ℕ → Demand → Type 0
IsMet order (All row) = (m : ℕ) → Contains row m → Contains order m
IsMet order (One row) = (m : ℕ) × Contains row m × Contains order m

-- needs name only numbers that have needs
pub record AreNeedsWithin (needs : List Demand) : Type 0 where
  pub within : (n m : ℕ) (need : Demand) → slice_get needs n ≡ Some need → Contains (row_of need) m → m < length needs

-- the needs of the numbers below i do
abbrev pub AreNeedsWithinTo : List Demand → ℕ → Type 0
AreNeedsWithinTo needs i =
    (n m : ℕ) (need : Demand) → n < i → slice_get needs n ≡ Some need → Contains (row_of need) m → m < length needs

-- each number stands in the order once, after numbers that meet its need; a number whose need the order meets is in it
pub record IsDerived (needs : List Demand) (order : List ℕ) : Type 0 where
  pub within : (n : ℕ) → Contains order n → n < length needs
  pub short : length order ≤ length needs
  pub once : (i j n : ℕ) → slice_get order i ≡ Some n → slice_get order j ≡ Some n → i ≡ j
  pub earned : (i n : ℕ) (need : Demand) → slice_get order i ≡ Some n → slice_get needs n ≡ Some need →
      IsMet (take i order) need
  pub closed : (n : ℕ) (need : Demand) → slice_get needs n ≡ Some need → IsMet order need → Contains order n
