-- How many nodes a grammar has: one for each occurrence of an expression in its rules' bodies, and two for a Plus.
use Rattle.std.specs.Prelude.{ℕ, ◌+◌, List, map, sum_by}
use Rattle.pegread.specs.Pattern.{Pattern, Patterns, Rule, Any, Bytes, Set, Name, Seq, Choice, Star, Plus, Opt, And}
use Rattle.pegread.specs.Pattern.{Not, Act, Open, Close, none, more}

-- the nodes of an expression, with all that stand in it; a Plus has itself and the Star of its operand
abbrev mutual
  pub node_count : Pattern → ℕ
  node_count Any = 1
  node_count (Bytes bs) = 1
  node_count (Set s) = 1
  node_count (Name n) = 1
  node_count (Seq es) = node_count_all es + 1
  node_count (Choice es) = node_count_all es + 1
  node_count (Star e) = node_count e + 1
  node_count (Plus e) = node_count e + 2
  node_count (Opt e) = node_count e + 1
  node_count (And e) = node_count e + 1
  node_count (Not e) = node_count e + 1
  node_count (Act t) = 1
  node_count Open = 1
  node_count Close = 1

  pub node_count_all : Patterns → ℕ
  node_count_all none = 0
  node_count_all (more e es) = node_count e + node_count_all es

-- the nodes of all bodies
abbrev pub node_counts : List Rule → ℕ
node_counts rules = sum_by node_count (map (λ rule. rule.body) rules)
