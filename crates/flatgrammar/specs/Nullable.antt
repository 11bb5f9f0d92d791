-- What a node passes without a letter.
use Rattle.std.specs.Prelude.{◌≡◌, ℕ, List, slice_get, Some}
use Rattle.flatgrammar.specs.Flat.{Node, Name, Begins, IsDone, Calling, IsTaking}

module _ (nodes : List Node) (bodies : List ℕ) where
  mutual
    -- from a node's start to one of its steps; an iteration that takes a letter is no way
    pub data Passes : ℕ → ℕ → Type 0 where
      begun : {s k : ℕ} {node : Node} → slice_get nodes s ≡ Some node → Begins node k → Passes s k
      stepped : {s k t l : ℕ} {node : Node} → Passes s k → slice_get nodes s ≡ Some node → Calling node k t l
          → (IsTaking node → ⊥) → Nullable t → Passes s l

    -- to where it is done
    pub data Nullable : ℕ → Type 0 where
      done : {s k : ℕ} {node : Node} → Passes s k → slice_get nodes s ≡ Some node → IsDone node k → Nullable s
      named : {s t r : ℕ} → slice_get nodes s ≡ Some (Name r) → slice_get bodies r ≡ Some t → Nullable t → Nullable s
