-- The index of the log: its cells are linked by buckets, each to the last one before it in its bucket.
use Rattle.std.specs.Prelude.{◌≡◌, ℕ, ◌-◌, ◌<◌, ◌≤◌, List, Some, length, map, slice_get, bit_and}
use Rattle.memo.specs.declared.index.IndexCell.{IndexCell}

-- a key's number, and the entry that has the key
pub record Position : Type 0 where
  pub number : ℕ
  pub entry : ℕ

abbrev pub position_of_cell : IndexCell → Position
position_of_cell c = record { number = c.number; entry = c.entry }

abbrev pub positions_of : List IndexCell → List Position
positions_of cells = map position_of_cell cells

-- one of so many buckets
unfoldable pub bucket_of : ℕ → ℕ → ℕ
bucket_of count number = bit_and number (count - 1)

abbrev pub bucket_of_cell : ℕ → IndexCell → ℕ
bucket_of_cell count c = bucket_of count c.number

abbrev pub IsCellAt : (IndexCell → ℕ) → List IndexCell → ℕ → ℕ → Type 0
IsCellAt bucket cells b j = (c : IndexCell) × (slice_get cells j ≡ Some c) × (bucket c ≡ b)

-- of the first k cells, that before index `at` is the last one of bucket b; none is if `at` is 0
pub record IsLastCell (bucket : IndexCell → ℕ) (cells : List IndexCell) (k b at : ℕ) : Type 0 where
  pub within : at ≤ k
  pub here : 0 < at → IsCellAt bucket cells b (at - 1)
  pub after : (j : ℕ) (c : IndexCell) → at ≤ j → j < k → slice_get cells j ≡ Some c → bucket c ≡ b → ⊥

-- each cell is linked to the last one before it in its bucket, and each head to the last one of its bucket
pub record AreLinkedCells (bucket : IndexCell → ℕ) (cells : List IndexCell) (firsts : List ℕ) : Type 0 where
  pub links : (i : ℕ) (c : IndexCell) → slice_get cells i ≡ Some c → IsLastCell bucket cells i (bucket c) c.link
  pub heads : (b h : ℕ) → slice_get firsts b ≡ Some h → IsLastCell bucket cells (length cells) b h
