-- Sets of items as rows: of each dotted rule the numbers that it has, and of these the pending ones.
use Rattle.std.specs.Prelude.{◌≡◌, ◌↔◌, ◌⊎◌, ℕ, ◌<◌, List, [], length, slice_index_or, Contains}
use Rattle.std.specs.Prelude.{replicate}

pub record Rows : Type 0 where
  pub all : List (List ℕ)
  pub pending : List (List ℕ)

-- no dotted rule has a number
abbrev pub no_items : ℕ → Rows
no_items positions = record { all = replicate positions []; pending = replicate positions [] }

-- dotted rule p has k
abbrev pub HasAt : List (List ℕ) → ℕ → ℕ → Type 0
HasAt rows p k = Contains (slice_index_or rows p []) k

-- dotted rule p has some number
abbrev pub HasSome : List (List ℕ) → ℕ → Type 0
HasSome rows p = (k : ℕ) × HasAt rows p k

-- dotted rule p has some number below n
abbrev pub HasOlder : List (List ℕ) → ℕ → ℕ → Type 0
HasOlder rows n p = (k : ℕ) × HasAt rows p k × (k < n)

-- each dotted rule with something pending stands in the queue
pub record AreQueued (all pending : List (List ℕ)) (queue : List ℕ) : Type 0 where
  pub count : length pending ≡ length all
  pub queued : (p k : ℕ) → HasAt pending p k → Contains queue p
  pub below : (p : ℕ) → Contains queue p → p < length all

-- dotted rule p gets those of Q, and what is new of them is pending
pub record AddsAt (p : ℕ) (Q : ℕ → Type 0) (old new : Rows) : Type 0 where
  pub count : length new.all ≡ length old.all
  pub all : (q k : ℕ) → HasAt new.all q k ↔ (HasAt old.all q k ⊎ ((q ≡ p) × Q k))
  pub pending : (q k : ℕ) → HasAt new.pending q k
      ↔ (HasAt old.pending q k ⊎ ((q ≡ p) × Q k × (HasAt old.all p k → ⊥)))

-- what is pending at dotted rule p is taken
pub record TakesAt (p : ℕ) (row : List ℕ) (old new : Rows) : Type 0 where
  pub below : p < length old.all
  pub all : new.all ≡ old.all
  pub taken : (k : ℕ) → Contains row k ↔ HasAt old.pending p k
  pub rest : (q k : ℕ) → HasAt new.pending q k ↔ (HasAt old.pending q k × (q ≡ p → ⊥))
