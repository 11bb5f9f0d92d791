-- Nodes that spell the bodies of a grammar's rules, operands before the nodes that they stand in.
use Rattle.std.specs.Prelude.{◌≡◌, ℕ, ◌<◌, ◌≤◌, List, length, map, slice_get, Some, Contains}
use Rattle.pegread.specs.Pattern.{Pattern, Rule}
use Rattle.pegnodes.specs.Nodes.{Shape, Any, Bytes, Set, Name, Seq, Choice, Star, Plus, Opt, And, Not, Act, Open}
use Rattle.pegnodes.specs.Nodes.{Close, Spells}

-- of each rule the node that spells its body
pub record AreBodies (rules : List Rule) (nodes : List Shape) (bodies : List ℕ) : Type 0 where
  pub count : length bodies ≡ length rules
  pub spelled : (id m : ℕ) → slice_get bodies id ≡ Some m →
      (p : Pattern) × (slice_get (map (λ rule. rule.body) rules) id ≡ Some p) × Spells rules nodes m p

-- m is an operand of the node
abbrev pub IsOperand : Shape → ℕ → Type 0
IsOperand Any m = ⊥
IsOperand (Bytes bs) m = ⊥
IsOperand (Set s) m = ⊥
IsOperand (Name id) m = ⊥
IsOperand (Seq ms) m = Contains ms m
IsOperand (Choice ms) m = Contains ms m
IsOperand (Star n) m = m ≡ n
IsOperand (Plus n k) m = m ≡ n
IsOperand (Opt n) m = m ≡ n
IsOperand (And n) m = m ≡ n
IsOperand (Not n) m = m ≡ n
IsOperand (Act t) m = ⊥
IsOperand Open m = ⊥
IsOperand Close m = ⊥

-- operands have smaller numbers than the nodes that they stand in
pub record IsBuilt (nodes : List Shape) : Type 0 where
  pub after : (n m : ℕ) (node : Shape) → slice_get nodes n ≡ Some node → IsOperand node m → m < n

-- a name is the id of a rule, or the number of rules
pub record AreNamed (count : ℕ) (nodes : List Shape) : Type 0 where
  pub within : (n id : ℕ) → slice_get nodes n ≡ Some (Name id) → id ≤ count
