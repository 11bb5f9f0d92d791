-- What rules need to lead to some terminal. It serves private helpers alone.
use Rattle.std.specs.Prelude.{◌≡◌, ◌↔◌, ℕ, ◌+◌, ◌||◌, Bool, List, [], ◌∷◌, ◌++◌, length, map, slice_get, Option, Some}
use Rattle.std.specs.Prelude.{option_map, if◌then◌else◌, not, false, drop, slice_index_or}
use Rattle.std.specs.List.{filter_map, list_any}
use Rattle.std.proofs.Common.{Global, Vec}
use Rattle.fixpoint.specs.Demands.{Demand, All, One}
use Rattle.fixpoint.specs.NumberMarks.{IsMarked}
use Rattle.diagnostics.specs.NumberLists.{numbers_for, positions_from}
use Rattle.ruletable.specs.Rules.{Rules, bodies_of, find_in}
use Rattle.ruletable.specs.declared.table.NameCase.TheVariants.{Fold}
use Rattle.rfcvalues.specs.AssignedValues.{IsRuleGrounded, is_core, goes_by}
use Rattle.rfcvalues.specs.RuleSketches.{SketchedRule}

-- the lists have, by name, the numbers of the rules that have it
abbrev pub AreNumbersByName : List SketchedRule → Rules (Vec ℕ Global) → Type 0
AreNumbersByName rules lists = (lists.names ≡ Fold)
    × ((name : List ℕ) → numbers_for lists name ≡ positions_from 0 (goes_by name) rules)

-- the numbers of the names among words, from that number on
abbrev pub word_numbers : Rules (Vec ℕ Global) → ℕ → List (List ℕ) → List ℕ
word_numbers lists first words = filter_map (λ word. option_map (λ id. first + id) (find_in lists word)) words

-- what a rule needs: nothing if it has a mark or uses a core rule, else one of its words
abbrev pub rule_demand : Rules (Vec ℕ Global) → ℕ → SketchedRule → Demand
rule_demand lists first rule =
    if rule.is_marked || list_any is_core rule.uses then All [] else One (word_numbers lists first rule.uses)

-- a name needs one of the rules that have it
abbrev pub name_demands : Rules (Vec ℕ Global) → List Demand
name_demands lists = map (λ body. One body.items) (bodies_of lists)

abbrev pub all_demands : Rules (Vec ℕ Global) → List SketchedRule → List Demand
all_demands lists rules = map (rule_demand lists (length rules)) rules ++ name_demands lists

-- the rules that are grounded are marked, and perhaps more numbers than there are rules
pub record AreGroundedMarks (rules : List SketchedRule) (marks : List Bool) : Type 0 where
  pub grounded : (n : ℕ) (rule : SketchedRule) → slice_get rules n ≡ Some rule
      → IsMarked marks n ↔ IsRuleGrounded rules rule

-- whether a rule that is grounded or not assigns a value
abbrev pub assigns_value : Bool → SketchedRule → Bool
assigns_value grounded rule = not grounded || (rule.is_statement || rule.is_compact)

-- the same for each rule
abbrev pub value_marks : List SketchedRule → List Bool → List Bool
value_marks [] grounded = []
value_marks (rule ∷ rules) grounded =
    assigns_value (slice_index_or grounded 0 false) rule ∷ value_marks rules (drop 1 grounded)
