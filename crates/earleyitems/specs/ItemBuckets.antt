-- Items linked by buckets: each names the last one before it in its bucket, and each bucket its last one.
use Rattle.std.specs.Prelude.{◌≡◌, ℕ, ◌+◌, ◌-◌, ◌*◌, ◌%◌, ◌^◌, ◌<◌, ◌≤◌, List, Some, slice_get, length, bit_and}
use Rattle.flatgrammar.specs.declared.flat_item.Item.{Item}

-- dotted rules a few numbers apart are mixed, and the origins of a dotted rule take every fourth bucket
unfoldable pub item_bucket : ℕ → Item → ℕ
item_bucket count a =
    bit_and (((a.origin * 4 % 2 ^ 64) + ((a.node + a.step) % 2 ^ 64 * 11400714819323198059 % 2 ^ 64)) % 2 ^ 64)
    (count - 1)

abbrev pub IsIn : (Item → ℕ) → List Item → ℕ → ℕ → Type 0
IsIn bucket list b j = (a : Item) × (slice_get list j ≡ Some a) × (bucket a ≡ b)

-- of the first k items, that before index `at` is the last one of bucket b; none is if `at` is 0
pub record IsLast (bucket : Item → ℕ) (list : List Item) (k b at : ℕ) : Type 0 where
  pub within : at ≤ k
  pub here : 0 < at → IsIn bucket list b (at - 1)
  pub after : (j : ℕ) (a : Item) → at ≤ j → j < k → slice_get list j ≡ Some a → bucket a ≡ b → ⊥

-- no bucket holds a number past the items
abbrev pub AreWithin : List Item → List ℕ → ℕ → Type 0
AreWithin list buckets base = (b h : ℕ) → slice_get buckets b ≡ Some h → h ≤ base + length list

-- numbers in buckets count from a base: a bucket whose number is not above the base has no item. The links after those
-- of the items may hold anything
pub record AreLinked (bucket : Item → ℕ) (list : List Item) (links buckets : List ℕ) (base : ℕ) : Type 0 where
  pub long : length list ≤ length links
  pub some : 0 < length buckets
  pub before : (i l : ℕ) (a : Item) → slice_get list i ≡ Some a → slice_get links i ≡ Some l
      → IsLast bucket list i (bucket a) l
  pub last : (b h : ℕ) → slice_get buckets b ≡ Some h → IsLast bucket list (length list) b (h - base)

-- the buckets of some items, which are linked while they are fewer than `room`
pub record AreBuckets (list : List Item) (links buckets : List ℕ) (base room : ℕ) : Type 0 where
  pub within : AreWithin list buckets base
  pub linked : length list < room → AreLinked (item_bucket (length buckets)) list links buckets base
  pub fits : base + room < 2 ^ 64

-- the items are linked by some buckets, and that before index `last` is the last one in the bucket of an item
pub record IsLinkedTo (list : List Item) (links : List ℕ) (last : ℕ) (item : Item) : Type 0 where
  pub count : ℕ
  pub buckets : List ℕ
  pub base : ℕ
  pub linked : AreLinked (item_bucket count) list links buckets base
  pub is_last : IsLast (item_bucket count) list (length list) (item_bucket count item) last
