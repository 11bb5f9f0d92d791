-- Nodes numbered from expressions, operands first.
use Rattle.std.specs.Prelude.{◌≡◌, ℕ, ◌+◌, ◌<◌, ◌≤◌, List, ◌++◌, length}
use Rattle.pegread.specs.Pattern.{Pattern, Patterns, Rule}
use Rattle.pegnodes.specs.Bodies.{IsBuilt}
use Rattle.pegnodes.specs.NodeCounts.{node_count, node_count_all}
use Rattle.pegnodes.specs.NodeLists.{all_nodes, nodes_of, node_number, numbers_of}
use Rattle.pegnodes.specs.Nodes.{Shape, Spells, SpellAll}
use Rattle.pegnodes.specs.Within.{Within, WithinSome, StandsIn}

module _ (rules : List Rule) where
  -- node m spells an expression that stands within p
  pub record SpellsPart (nodes : List Shape) (p : Pattern) (m : ℕ) : Type 0 where
    pub part : Pattern
    pub within : Within p part
    pub spelled : Spells rules nodes m part

  -- node m spells an expression that stands within one of them
  pub record SpellsPartOf (nodes : List Shape) (ps : Patterns) (m : ℕ) : Type 0 where
    pub part : Pattern
    pub within : WithinSome ps part
    pub spelled : Spells rules nodes m part

  -- The nodes of an expression were added, operands before the nodes that they stand in. Node n is its own and spells
  -- it, and each new node spells an expression within it.
  pub record Numbers (old new : List Shape) (n : ℕ) (p : Pattern) : Type 0 where
    pub added : List Shape
    pub grown : new ≡ old ++ added
    pub exact : added ≡ nodes_of rules (length old) p
    pub own : n ≡ node_number (length old) p
    pub counted : length new ≡ length old + node_count p
    pub spelled : Spells rules new n p
    pub parts : (m : ℕ) → length old ≤ m → m < length new → SpellsPart new p m
    pub built : IsBuilt old → IsBuilt new

  -- The nodes of the members were added, and each of the numbers is that of a node that spells the member in its place.
  pub record NumbersAll (old new : List Shape) (ns : List ℕ) (ps : Patterns) : Type 0 where
    pub added : List Shape
    pub grown : new ≡ old ++ added
    pub exact : added ≡ all_nodes rules (length old) ps
    pub own : ns ≡ numbers_of (length old) ps
    pub counted : length new ≡ length old + node_count_all ps
    pub spelled : SpellAll rules new ns ps
    pub parts : (m : ℕ) → length old ≤ m → m < length new → SpellsPartOf new ps m
    pub built : IsBuilt old → IsBuilt new

  -- node n spells an expression that stands in the body of a rule
  pub record SpellsStanding (nodes : List Shape) (n : ℕ) : Type 0 where
    pub expr : Pattern
    pub stands : StandsIn rules expr
    pub spelled : Spells rules nodes n expr

  -- each node spells an expression that stands in the body of a rule
  abbrev pub AreStanding : List Shape → Type 0
  AreStanding nodes = (n : ℕ) → n < length nodes → SpellsStanding nodes n
