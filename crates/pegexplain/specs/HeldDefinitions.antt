-- Lines of actions that begin a rule by their form: perhaps the action before them lacks its `}`.
use Rattle.std.specs.Prelude.{ℕ, zero, suc, ◌+◌, ◌==◌, List, [], ◌∷◌, ◌++◌, Option, Some, None, length}
use Rattle.std.specs.Prelude.{false, if◌then◌else◌}
use Rattle.std.specs.List.{flat_map}
use Rattle.pegprint.specs.PegRuleLines.{name_defined}
use Rattle.pegread.specs.Pattern.{Pattern, Act, Rule}
use Rattle.pegexplain.specs.BodyLeaves.{LeafAt, RuleLeafAt, leaves_in}

-- a definition in an action: the action, its template, where the line begins there, and the name
pub record HeldAt : Type 0 where
  pub action : RuleLeafAt
  pub template : List ℕ
  pub at : ℕ
  pub name : List ℕ

-- the name that a line of a template after the first one defines
abbrev pub name_held : List ℕ → ℕ → Option (List ℕ)
name_held template at = if at == 0 then None else name_defined template at

abbrev pub held_if : RuleLeafAt → List ℕ → ℕ → Option (List ℕ) → List HeldAt
held_if action template at None = []
held_if action template at (Some name) =
    record { action = action; template = template; at = at; name = name } ∷ []

-- the definitions on the lines that begin in so many bytes of a template
abbrev pub held_before : RuleLeafAt → List ℕ → ℕ → List HeldAt
held_before action template zero = []
held_before action template (suc n) =
    held_before action template n ++ held_if action template n (name_held template n)

-- those in a leaf
abbrev pub held_in : RuleLeafAt → Pattern → List HeldAt
held_in action (Act template) = held_before action template (length template)
held_in action _ = []

-- those among leaves after so many
abbrev pub held_among : List ℕ → Pattern → ℕ → List LeafAt → List HeldAt
held_among rule body position [] = []
held_among rule body position (leaf ∷ leaves) =
    held_in (record { rule = rule; body = body; position = position }) leaf.e
    ++ held_among rule body (position + 1) leaves

-- those in the actions of the rules, in order
abbrev pub held_in_rule : List ℕ → Pattern → List HeldAt
held_in_rule rule body = held_among rule body 0 (leaves_in false body)

abbrev pub held_definitions : List Rule → List HeldAt
held_definitions rules = flat_map (λ rule. held_in_rule rule.name rule.body) rules
