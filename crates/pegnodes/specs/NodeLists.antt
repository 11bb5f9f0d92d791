-- The nodes of a grammar, as a list: rule by rule, the operands of an expression before the expression, in the order in
-- which they stand in it.
use Rattle.std.specs.Prelude.{◌≡◌, ℕ, ◌+◌, ◌-◌, List, [], ◌∷◌, ◌++◌}
use Rattle.pegread.specs.Pattern as e
use Rattle.pegread.specs.Pattern.{Pattern, Patterns, Rule}
use Rattle.pegnodes.specs.NodeCounts.{node_count}
use Rattle.pegnodes.specs.Nodes.{Shape, Any, Bytes, Set, Name, Seq, Choice, Star, Plus, Opt, And, Not, Act, Open}
use Rattle.pegnodes.specs.Nodes.{Close, id_of}

-- the number of an expression's node, where the first node of those that stand in it has the number `first`: its own is
-- the last one
abbrev pub node_number : ℕ → Pattern → ℕ
node_number first p = first + node_count p - 1

-- the numbers of the nodes of several expressions, one after the other
abbrev pub numbers_of : ℕ → Patterns → List ℕ
numbers_of first e.none = []
numbers_of first (e.more p ps) = node_number first p ∷ numbers_of (first + node_count p) ps

-- the number of the node that a Plus has after its operand, for the repetition that goes on
abbrev pub star_of : ℕ → Pattern → ℕ
star_of first operand = first + node_count operand

module _ (rules : List Rule) where
  abbrev mutual
    -- the nodes of an expression, of which the first has this number
    pub nodes_of : ℕ → Pattern → List Shape
    nodes_of first e.Any = Any ∷ []
    nodes_of first (e.Bytes bs) = Bytes bs ∷ []
    nodes_of first (e.Set s) = Set s ∷ []
    nodes_of first (e.Name name) = Name (id_of rules name) ∷ []
    nodes_of first (e.Seq ps) = all_nodes first ps ++ Seq (numbers_of first ps) ∷ []
    nodes_of first (e.Choice ps) = all_nodes first ps ++ Choice (numbers_of first ps) ∷ []
    nodes_of first (e.Star p) = nodes_of first p ++ Star (node_number first p) ∷ []
    nodes_of first (e.Plus p) =
        (nodes_of first p ++ Star (node_number first p) ∷ []) ++ Plus (node_number first p) (star_of first p) ∷ []
    nodes_of first (e.Opt p) = nodes_of first p ++ Opt (node_number first p) ∷ []
    nodes_of first (e.And p) = nodes_of first p ++ And (node_number first p) ∷ []
    nodes_of first (e.Not p) = nodes_of first p ++ Not (node_number first p) ∷ []
    nodes_of first (e.Act t) = Act t ∷ []
    nodes_of first e.Open = Open ∷ []
    nodes_of first e.Close = Close ∷ []

    pub all_nodes : ℕ → Patterns → List Shape
    all_nodes first e.none = []
    all_nodes first (e.more p ps) = nodes_of first p ++ all_nodes (first + node_count p) ps

  -- the nodes of the bodies of rules, of which the first has this number
  abbrev pub nodes_of_rules : ℕ → List Rule → List Shape
  nodes_of_rules first [] = []
  nodes_of_rules first (rule ∷ rest) =
      nodes_of first rule.body ++ nodes_of_rules (first + node_count rule.body) rest

-- of each rule the number of its body's node
abbrev pub bodies_of_rules : ℕ → List Rule → List ℕ
bodies_of_rules first [] = []
bodies_of_rules first (rule ∷ rest) = node_number first rule.body ∷ bodies_of_rules (first + node_count rule.body) rest

-- the nodes of a grammar, and of each rule the number of its body's node
pub record AreNumbered (rules : List Rule) (nodes : List Shape) (bodies : List ℕ) : Type 0 where
  pub nodes_are : nodes ≡ nodes_of_rules rules 0 rules
  pub bodies_are : bodies ≡ bodies_of_rules 0 rules
