-- Items of rules that began before their set, what they read and call, and the stacks that have them on top.
use Rattle.std.specs.Prelude.{◌≡◌, ℕ, ◌<◌, Bool, true, false, List, ◌∷◌, length, slice_get, Some}
use Rattle.flatgrammar.specs.Flat.{Flat, Dot, at, Set, Letters, Name, Starts, Calls}
use Rattle.flatgrammar.specs.Holds.{Holds}
use Rattle.flatgrammar.specs.Nullable.{Nullable}
use Rattle.flatgrammar.specs.Stacks.{node_at, IsDoneAt}

module _ (flat : Flat) where
  abbrev pub IsNameNode : ℕ → Type 0
  IsNameNode s = (r : ℕ) × (slice_get flat.nodes s ≡ Some (Name r))

  module _ (x : List ℕ) (n : ℕ) where
    -- an item of set n with that node and that origin belongs to a rule that began before n, or to the judged rule at
    -- the first position
    pub data IsOld : ℕ → ℕ → Type 0 where
      before : {s i : ℕ} → i < n → IsOld s i
      whole : n ≡ 0 → IsOld flat.start 0
      entered : {q r : Dot} {i s : ℕ} → Holds flat x n q i → IsOld (node_at q) i → Calls flat q s r
          → (IsNameNode s → ⊥) → IsOld s n

    module _ (Old : ℕ → ℕ → Type 0) where
      -- items of set n read symbol k of a terminal's node, or call a name's node
      pub data HasPart : ℕ → ℕ → Type 0 where
        reads : {s k i : ℕ} {sets : List Set} → Holds flat x n (at s k) i → Old s i
            → slice_get flat.nodes s ≡ Some (Letters sets) → k < length sets → HasPart s k
        calls : {q r : Dot} {i s : ℕ} → Holds flat x n q i → Old (node_at q) i → Calls flat q s r → IsNameNode s
            → HasPart s 0

  module _ (last : Dot → Bool) where
    -- without a symbol, from stacks of some set, and into no rule
    pub data Walks (from : List Dot → Type 0) : List Dot → Type 0 where
      begun : {a : List Dot} → from a → Walks from a
      returns : {p r : Dot} {below : List Dot} → Walks from (p ∷ r ∷ below) → IsDoneAt flat p → Walks from (r ∷ below)
      enters : {s : ℕ} {p q r : Dot} {below : List Dot} → Walks from (q ∷ below) → Calls flat q s r
          → (IsNameNode s → ⊥) → Starts flat s p → last r ≡ false → Walks from (p ∷ r ∷ below)
      enters_last : {s : ℕ} {p q r : Dot} {below : List Dot} → Walks from (q ∷ below) → Calls flat q s r
          → (IsNameNode s → ⊥) → Starts flat s p → last r ≡ true → Walks from (p ∷ below)
      passes : {s : ℕ} {q r : Dot} {below : List Dot} → Walks from (q ∷ below) → Calls flat q s r → IsNameNode s
          → Nullable flat.nodes flat.bodies s → Walks from (r ∷ below)
