-- What contracts see of a sound grammar.
use Rattle.std.specs.Prelude.{ℕ, List}
use Rattle.ruletable.specs.Rules as table
use Rattle.pegread.specs.Pattern.{Rule}
use Rattle.pegread.specs.declared.expr.Expr.{Expr}
use Rattle.pegread.specs.PegViews.{rules_of}
use Rattle.pegnodes.specs.KeyLists.{Marks, node_marks, tail_marks}
use Rattle.pegnodes.specs.KeyMarks.{AreMarks}
use Rattle.pegnodes.specs.NodeLists.{AreNumbered}
use Rattle.pegnodes.specs.declared.node.Node.{Node}
use Rattle.pegnodes.specs.Nodes.{shapes_of}
use Rattle.gramcheck.specs.Sound.{IsRanked}

-- the rules, the id of the start rule, the numbered nodes, of each rule the node that spells its body, of each node its
-- rank, and the marks of the nodes and tails that are keys
pub record Grammar : Type 0 where
  pub rules : table.Rules Expr
  pub start : ℕ
  pub nodes : List Node
  pub bodies : List ℕ
  pub ranks : List ℕ
  pub keys : Marks

-- the id of the start rule, the numbered nodes, of each rule the node that spells its body, and of each node its rank
pub record Ranked : Type 0 where
  pub start : ℕ
  pub nodes : List Node
  pub bodies : List ℕ
  pub ranks : List ℕ

-- the nodes spell the rules' bodies, and every left step between them lowers the rank
abbrev pub IsSoundGrammar : Grammar → Type 0
IsSoundGrammar g = IsRanked (rules_of g.rules) g.start (shapes_of g.nodes) g.bodies g.ranks

-- the nodes are those of the rules, one after the other; they spell the rules' bodies, and every left step between them
-- lowers the rank
pub record IsRankedFor (rules : List Rule) (r : Ranked) : Type 0 where
  pub ranked : IsRanked rules r.start (shapes_of r.nodes) r.bodies r.ranks
  pub numbered : AreNumbered rules (shapes_of r.nodes) r.bodies

-- what is no key is asked for at one position at most, or only where a key is that determines it
abbrev pub HasKeys : Grammar → Type 0
HasKeys g = AreMarks g.start (shapes_of g.nodes) g.bodies (node_marks g.keys) (tail_marks g.keys)

-- the nodes are those of the rules, one after the other
abbrev pub IsNumbered : Grammar → Type 0
IsNumbered g = AreNumbered (rules_of g.rules) (shapes_of g.nodes) g.bodies
