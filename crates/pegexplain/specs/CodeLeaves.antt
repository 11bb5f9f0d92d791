-- What the code found of leaves. It serves private helpers alone.
use Rattle.pegread.specs.PegViews.{pattern_of}
use Rattle.pegexplain.specs.BodyLeaves.{LeafAt, RuleLeafAt}
use Rattle.pegexplain.specs.HeldDefinitions.{HeldAt}
use Rattle.pegexplain.specs.declared.hints.held.HeldDefinition.{HeldDefinition}
use Rattle.pegexplain.specs.declared.hints.leaves.Leaf.{Leaf}
use Rattle.pegexplain.specs.declared.hints.leaves.RuleLeaf.{RuleLeaf}

-- what the code's leaf stands for
abbrev pub leaf_found : Leaf → LeafAt
leaf_found leaf = record { e = pattern_of leaf.e.now; begun = leaf.begun }

-- what the code's leaf of a rule stands for
abbrev pub rule_leaf_found : RuleLeaf → RuleLeafAt
rule_leaf_found leaf = record { rule = leaf.rule.now; body = pattern_of leaf.body.now; position = leaf.position }

-- what the code's definition in an action stands for
abbrev pub held_found : HeldDefinition → HeldAt
held_found h = record { action = rule_leaf_found h.action; template = h.template.now; at = h.at; name = h.name.now }
