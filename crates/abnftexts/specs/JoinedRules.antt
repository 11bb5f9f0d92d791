-- The order in which rules are printed, and definitions of one name. All rules here stand: none is given again, and
-- none yields to another.
use Rattle.std.specs.Prelude.{ℕ, ◌==◌, ◌||◌, ◌&&◌, nat_lt, not, Bool, List, [], ◌∷◌, length, map, take}
use Rattle.std.specs.Prelude.{if◌then◌else◌}
use Rattle.std.specs.List.{enumerate_from, filter, flat_map, prefix_len}
use Rattle.ruletable.specs.Rules.{same_name}
use Rattle.ruletable.specs.declared.table.NameCase.TheVariants.{Fold}
use Rattle.abnftexts.specs.GivenRules.{RuleGiven}
use Rattle.abnftexts.specs.declared.join.order.Clash.{Clash}

-- the other one is a definition of the rule's name
abbrev pub is_defined_by : RuleGiven → RuleGiven → Bool
is_defined_by rule other = not other.adds && same_name Fold rule.name other.name

-- the other one adds alternatives to the rule's name
abbrev pub is_added_by : RuleGiven → RuleGiven → Bool
is_added_by rule other = other.adds && same_name Fold rule.name other.name

-- the number of the first definition of the rule's name, or how many rules there are
abbrev pub first_definition : RuleGiven → List RuleGiven → ℕ
first_definition rule rules = prefix_len (λ other. not (is_defined_by rule other)) rules

-- the numbers of those that add to the rule's name
abbrev pub adding_numbers : RuleGiven → List RuleGiven → List ℕ
adding_numbers rule rules = map (λ p. p.0) (filter (λ p. is_added_by rule p.1) (enumerate_from 0 rules))

-- What is printed at the position of a rule with that number: a definition, and after the first one of a name what adds
-- to it and is given before it; or what adds, unless it waits for a definition after it.
abbrev pub printed_at : List RuleGiven → ℕ → RuleGiven → List ℕ
printed_at rules n rule =
    let first = first_definition rule rules in
    if rule.adds then (if nat_lt first n || (first == length rules) then n ∷ [] else [])
    else if first == n then n ∷ adding_numbers rule (take n rules) else n ∷ []

-- the numbers of the rules in the order in which they are printed
abbrev pub joined_order : List RuleGiven → List ℕ
joined_order rules = flat_map (λ p. printed_at rules p.0 p.1) (enumerate_from 0 rules)

-- a definition, and the first one of its name, if that stands before it
abbrev pub clash_at : List RuleGiven → ℕ → RuleGiven → List Clash
clash_at rules n rule =
    let first = first_definition rule rules in
    if not rule.adds && nat_lt first n then record { first = first; second = n } ∷ [] else []

-- the definitions of a name after its first one, in order
abbrev pub clashes_of : List RuleGiven → List Clash
clashes_of rules = flat_map (λ p. clash_at rules p.0 p.1) (enumerate_from 0 rules)
