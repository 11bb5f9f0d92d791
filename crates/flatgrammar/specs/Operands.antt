-- The nodes that stand in a node.
use Rattle.std.specs.Prelude.{◌≡◌, ℕ, ◌<◌, List, slice_get, Some}
use Rattle.flatgrammar.specs.Flat.{Node, Letters, Concat, Alt, Rep, Iterations, Opt, Name, Nothing}

-- the nodes that stand in a node
abbrev pub IsOperand : Node → ℕ → Type 0
IsOperand (Letters sets) m = ⊥
IsOperand (Concat ms) m = (k : ℕ) × (slice_get ms k ≡ Some m)
IsOperand (Alt ms) m = (k : ℕ) × (slice_get ms k ≡ Some m)
IsOperand (Rep a b d) m = m ≡ d
IsOperand (Iterations b d) m = m ≡ d
IsOperand (Opt d) m = m ≡ d
IsOperand (Name r) m = ⊥
IsOperand Nothing m = ⊥

-- each stands before the node
pub record AreOrdered (nodes : List Node) : Type 0 where
  pub before : (s m : ℕ) (node : Node) → slice_get nodes s ≡ Some node → IsOperand node m → m < s
