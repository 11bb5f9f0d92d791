-- Which nodes are nullable.
use Rattle.std.specs.Prelude.{ℕ, Bool, List, [], ◌∷◌, map, slice_get, option_to_list}
use Rattle.pegread.specs.Pattern.{Pattern, Rule}
use Rattle.fixpoint.specs.Demands as d
use Rattle.fixpoint.specs.Demands.{Demand}
use Rattle.gramcheck.specs.Left.{Nullable}
use Rattle.fixpoint.specs.NumberMarks.{IsMarked}
use Rattle.pegnodes.specs.Nodes.{Shape, Any, Bytes, Set, Name, Seq, Choice, Star, Plus, Opt, And, Not, Act, Open}
use Rattle.pegnodes.specs.Nodes.{Close, Spells}

-- the nodes of which all or one must be nullable before a node is: all of none where it is at once, one of none where
-- it never is
abbrev pub null_demand : List ℕ → Shape → Demand
null_demand bodies Any = d.One []
null_demand bodies (Bytes []) = d.All []
null_demand bodies (Bytes (b ∷ bs)) = d.One []
null_demand bodies (Set s) = d.One []
null_demand bodies (Name id) = d.One (option_to_list (slice_get bodies id))
null_demand bodies (Seq ms) = d.All ms
null_demand bodies (Choice ms) = d.One ms
null_demand bodies (Star m) = d.All []
null_demand bodies (Plus m k) = d.One (m ∷ [])
null_demand bodies (Opt m) = d.All []
null_demand bodies (And m) = d.All []
null_demand bodies (Not m) = d.All []
null_demand bodies (Act t) = d.All []
null_demand bodies Open = d.All []
null_demand bodies Close = d.All []

-- what each node needs before it is nullable
abbrev pub null_demands : List ℕ → List Shape → List Demand
null_demands bodies nodes = map (null_demand bodies) nodes

-- exactly those nodes are marked that spell nullable expressions
pub record AreNullMarks (rules : List Rule) (nodes : List Shape) (marks : List Bool) : Type 0 where
  pub sound : (n : ℕ) (p : Pattern) → Spells rules nodes n p → IsMarked marks n → Nullable rules p
  pub whole : (n : ℕ) (p : Pattern) → Spells rules nodes n p → Nullable rules p → IsMarked marks n
