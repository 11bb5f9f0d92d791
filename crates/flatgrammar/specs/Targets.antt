-- Where a name starts and ends.
use Rattle.std.specs.Prelude.{◌≡◌, ℕ, List, length, slice_get, Option, Some}
use Rattle.flatgrammar.specs.Flat.{Node, Name}

module _ (nodes : List Node) (bodies : List ℕ) where
  -- The node where another starts and ends: itself, or of a name that of its rule's body. A name that leads to itself
  -- alone has none.
  pub data Target : ℕ → ℕ → Type 0 where
    own : {s : ℕ} {node : Node} → slice_get nodes s ≡ Some node → ((r : ℕ) → node ≡ Name r → ⊥) → Target s s
    named : {s t r u : ℕ} → slice_get nodes s ≡ Some (Name r) → slice_get bodies r ≡ Some t → Target t u → Target s u

  -- of each node its target
  pub record AreTargets (targets : List (Option ℕ)) : Type 0 where
    pub count : length targets ≡ length nodes
    pub sound : (s t : ℕ) → slice_get targets s ≡ Some (Some t) → Target s t
    pub whole : (s t : ℕ) → Target s t → slice_get targets s ≡ Some (Some t)
