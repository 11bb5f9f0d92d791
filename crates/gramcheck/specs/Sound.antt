-- Grammars whose ranks show that every expression has an outcome.
use Rattle.std.specs.Prelude.{◌≡◌, ℕ, ◌<◌, List, length, slice_get, Some}
use Rattle.pegread.specs.Pattern.{Pattern, Rule}
use Rattle.pegnodes.specs.Bodies.{AreBodies, IsBuilt}
use Rattle.pegnodes.specs.NodeCounts.{node_counts}
use Rattle.pegnodes.specs.Nodes.{Shape, Name}
use Rattle.gramcheck.specs.Outcome.{Outcome, Gives, RuleGives}
use Rattle.gramcheck.specs.Ranks.{AreRanks, RepeatsNoNull}

-- The nodes spell the rules' bodies, operands before the nodes that they stand in, and there are as many as the bodies
-- have; every name is that of a rule; each left step lowers the rank; and no node repeats a nullable one.
pub record IsRanked (rules : List Rule) (start : ℕ) (nodes : List Shape) (bodies ranks : List ℕ) : Type 0 where
  pub start_is_rule : start < length rules
  pub spelled : AreBodies rules nodes bodies
  pub built : IsBuilt nodes
  pub counted : length nodes ≡ node_counts rules
  pub defined : (n id : ℕ) → slice_get nodes n ≡ Some (Name id) → id < length rules
  pub falling : AreRanks rules nodes bodies ranks
  pub moving : RepeatsNoNull rules nodes bodies

-- at position p an expression gives one outcome, and no other
pub record GivesOne (rules : List Rule) (x : List ℕ) (e : Pattern) (p : ℕ) : Type 0 where
  pub outcome : Outcome
  pub looked : ℕ
  pub gives : Gives rules x e p outcome looked
  pub only : (o : Outcome) (k : ℕ) → Gives rules x e p o k → (o ≡ outcome) × (k ≡ looked)

-- the start rule gives one outcome, and no other
pub record StartGivesOne (rules : List Rule) (start : ℕ) (x : List ℕ) : Type 0 where
  pub outcome : Outcome
  pub looked : ℕ
  pub gives : RuleGives rules start x outcome looked
  pub only : (o : Outcome) (k : ℕ) → RuleGives rules start x o k → (o ≡ outcome) × (k ≡ looked)
