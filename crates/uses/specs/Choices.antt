-- Rules whose bodies are choices.
use Rattle.std.specs.Prelude.{Bool, true, false, List}
use Rattle.std.specs.List.{list_any}
use Rattle.pegread.specs.Pattern.{Pattern, Choice, Rule}

-- whether the pattern is a choice
abbrev pub is_choice : Pattern → Bool
is_choice (Choice es) = true
is_choice _ = false

-- whether the body of some rule is a choice
abbrev pub some_choice : List Rule → Bool
some_choice rules = list_any (λ rule. is_choice rule.body) rules
