-- How a grammar's nodes are written: the expression of a leaf, and the rule in whose body a node stands.
use Rattle.std.specs.Prelude.{ℕ, zero, suc, nat_lt, List, [], ◌∷◌, Option, Some, if◌then◌else◌}
use Rattle.pegprint.specs.Canon.{text_of}
use Rattle.pegread.specs.Pattern as e
use Rattle.pegread.specs.Pattern.{Rule}
use Rattle.pegnodes.specs.Nodes.{Shape, Any, Bytes, Set}

-- the canonical text of what compares a byte or more with the input
abbrev pub leaf_text : Option Shape → List ℕ
leaf_text (Some Any) = text_of e.Any
leaf_text (Some (Bytes bytes)) = text_of (e.Bytes bytes)
leaf_text (Some (Set s)) = text_of (e.Set s)
leaf_text _ = []

-- the id of the rule in whose body node n stands, where a body's nodes end with its own, and its number is in the list:
-- the first that has no smaller number
abbrev pub rule_of_node : List ℕ → ℕ → ℕ
rule_of_node [] n = 0
rule_of_node (body ∷ bodies) n = if nat_lt body n then suc (rule_of_node bodies n) else 0

-- the name of a rule, by its number
abbrev pub name_of_rule : List Rule → ℕ → List ℕ
name_of_rule [] id = []
name_of_rule (rule ∷ rules) zero = rule.name
name_of_rule (rule ∷ rules) (suc id) = name_of_rule rules id
