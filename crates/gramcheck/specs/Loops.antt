-- Nodes within which a nullable one is repeated.
use Rattle.std.specs.Prelude.{◌≡◌, ◌⊎◌, ℕ, ◌<◌, Bool, List, length, slice_get, Some, Contains}
use Rattle.pegread.specs.Pattern.{Pattern, Rule}
use Rattle.gramcheck.specs.Left.{RepeatsNullable}
use Rattle.fixpoint.specs.NumberMarks.{IsMarked}
use Rattle.pegnodes.specs.Nodes.{Shape, Any, Bytes, Set, Name, Seq, Choice, Star, Plus, Opt, And, Not, Act, Open}
use Rattle.pegnodes.specs.Nodes.{Close, Spells}

-- what the marks of a node's operands say of it
abbrev pub LoopsNow : List Bool → List Bool → Shape → Type 0
LoopsNow nulls marks Any = ⊥
LoopsNow nulls marks (Bytes bs) = ⊥
LoopsNow nulls marks (Set s) = ⊥
LoopsNow nulls marks (Name id) = ⊥
LoopsNow nulls marks (Seq ms) = (m : ℕ) × Contains ms m × IsMarked marks m
LoopsNow nulls marks (Choice ms) = (m : ℕ) × Contains ms m × IsMarked marks m
LoopsNow nulls marks (Star m) = IsMarked nulls m ⊎ IsMarked marks m
LoopsNow nulls marks (Plus m k) = IsMarked nulls m ⊎ IsMarked marks m
LoopsNow nulls marks (Opt m) = IsMarked marks m
LoopsNow nulls marks (And m) = IsMarked marks m
LoopsNow nulls marks (Not m) = IsMarked marks m
LoopsNow nulls marks (Act t) = ⊥
LoopsNow nulls marks Open = ⊥
LoopsNow nulls marks Close = ⊥

-- the first nodes are marked as their operands say
pub record LoopsTo (nodes : List Shape) (nulls : List Bool) (marks : List Bool) (i : ℕ) : Type 0 where
  pub count : length marks ≡ i
  pub sound : (n : ℕ) (node : Shape) → n < i → slice_get nodes n ≡ Some node → IsMarked marks n
      → LoopsNow nulls marks node
  pub whole : (n : ℕ) (node : Shape) → n < i → slice_get nodes n ≡ Some node → LoopsNow nulls marks node
      → IsMarked marks n

-- exactly those nodes are marked that spell expressions which repeat a nullable one
pub record AreLoopMarks (rules : List Rule) (nodes : List Shape) (marks : List Bool) : Type 0 where
  pub sound : (n : ℕ) (p : Pattern) → Spells rules nodes n p → IsMarked marks n → RepeatsNullable rules p
  pub whole : (n : ℕ) (p : Pattern) → Spells rules nodes n p → RepeatsNullable rules p → IsMarked marks n
