-- Runs of rules that assign values, and what is given for one that is no ABNF.
use Rattle.std.specs.Prelude.{ℕ, suc, ◌-◌, ◌&&◌, nat_le, Bool, true, false, List, [], ◌∷◌, ◌++◌, codes, decimal}
use Rattle.std.specs.Prelude.{drop, take, length, map, None, if◌then◌else◌}
use Rattle.abnfblocks.specs.FoundRules.{found_line}
use Rattle.abnfblocks.specs.RuleCuts.{blanks_first, lines_text, margin_at}
use Rattle.abnfblocks.specs.TextLines.{NumberedLine}
use Rattle.abnfblocks.specs.declared.found.RuleSearch.{RuleSearch}
use Rattle.abnfblocks.specs.declared.found.RuleSearch.TheVariants as found
use Rattle.rfcvalues.specs.AssignedValues.{is_no_abnf}
use Rattle.rfcvalues.specs.RuleSketches.{RuleSeen, SketchedRule}
use Rattle.abnftexts.specs.RulesGathered.{ListEntry, OfValue, RulesGathered}
use Rattle.abnftexts.specs.TextPositions.{number_at, position_shown}
use Rattle.abnftexts.specs.WrittenLists.{lines_alike}

-- how many lines what is found has, and whether it reads
abbrev pub line_count : RuleSearch → ℕ
line_count (found.Rule first count) = count
line_count (found.NotAbnf first count fault) = count

abbrev pub does_read : RuleSearch → Bool
does_read (found.Rule first count) = true
does_read (found.NotAbnf first count fault) = false

-- its lines
abbrev pub found_lines : List NumberedLine → RuleSearch → List NumberedLine
found_lines lines it = take (line_count it) (drop (found_line it) lines)

abbrev pub first_bytes : List NumberedLine → List ℕ
first_bytes [] = []
first_bytes (line ∷ lines) = line.bytes

-- the rule that is found there, where the first lines are those of the text, and the others have lists written out
abbrev pub seen_at : List NumberedLine → List NumberedLine → RuleSearch → RuleSeen
seen_at kept lines it = record {
  first = first_bytes (found_lines lines it);
  text = lines_text (margin_at (found_lines lines it)) (found_lines lines it);
  reads = does_read it;
  has_list = nat_le (suc (lines_alike (found_lines kept it) (found_lines lines it))) (length (found_lines lines it));
}

-- what is found, its sketch, and whether it assigns a value
pub record FoundRule : Type 0 where
  pub it : RuleSearch
  pub sketch : SketchedRule
  pub is_value : Bool

abbrev pub found_rules : List RuleSearch → List SketchedRule → List Bool → List FoundRule
found_rules (it ∷ others) (sketch ∷ sketches) (mark ∷ marks) =
    record { it = it; sketch = sketch; is_value = mark } ∷ found_rules others sketches marks
found_rules _ _ _ = []

-- the lines after its own
abbrev pub lines_after : List NumberedLine → RuleSearch → List NumberedLine
lines_after lines it = drop (line_count it) (drop (found_line it) lines)

-- only blank lines stand between the lines of both
abbrev pub stand_together : List NumberedLine → RuleSearch → RuleSearch → Bool
stand_together lines before it =
    nat_le (found_line it - found_line before - line_count before) (blanks_first (lines_after lines before))

-- both are values, and only blank lines stand between them
abbrev pub join_values : List NumberedLine → FoundRule → FoundRule → Bool
join_values lines before rule = before.is_value && rule.is_value && stand_together lines before.it rule.it

-- the rule stands in the run that begins the groups, or alone
abbrev pub before_groups : List NumberedLine → FoundRule → List (List FoundRule) → List (List FoundRule)
before_groups lines rule ((next ∷ run) ∷ groups) =
    if join_values lines rule next then (rule ∷ next ∷ run) ∷ groups else (rule ∷ []) ∷ (next ∷ run) ∷ groups
before_groups lines rule groups = (rule ∷ []) ∷ groups

-- the runs of values, and each other rule alone
abbrev pub groups_of : List NumberedLine → List FoundRule → List (List FoundRule)
groups_of lines [] = []
groups_of lines (rule ∷ rules) = before_groups lines rule (groups_of lines rules)

-- a run of values is no ABNF; a rule that is no value does not end like a statement, so that it is not one alone
abbrev pub assigns_values : List FoundRule → Bool
assigns_values group = is_no_abnf (map (λ rule. rule.sketch) group)

-- the number in the text of its first line
abbrev pub rule_number : List NumberedLine → RuleSearch → ℕ
rule_number lines it = number_at (drop (found_line it) lines) 1

-- the last of what is found, of which that stands first
abbrev pub last_found : RuleSearch → List RuleSearch → RuleSearch
last_found it [] = it
last_found it (next ∷ others) = last_found next others

-- the message on such a run: where it begins, how many rules it has, and where the last one begins
abbrev pub run_reported : List ℕ → List NumberedLine → List RuleSearch → List ℕ
run_reported name lines [] = []
run_reported name lines (it ∷ others) = position_shown name (rule_number lines it) ++ (codes ": no ABNF: "
    ++ (decimal (length (it ∷ others)) ++ (codes " lines up to line "
    ++ (decimal (rule_number lines (last_found it others)) ++ codes " assign values\n"))))

-- the line of the list for one of its rules, which has that name
abbrev pub value_listed : List ℕ → List NumberedLine → RuleSearch → List ℕ → List ℕ
value_listed name lines it own = position_shown name (rule_number lines it) ++ (codes ": '"
    ++ (own ++ codes "' assigns a value\n"))

-- and its entry
abbrev pub value_entry : List ℕ → List NumberedLine → RuleSearch → SketchedRule → ListEntry
value_entry name lines it sketch = OfValue (value_listed name lines it sketch.name)

-- what such a run gives: no rule, a report without lines, and a line of the list for each of its rules
abbrev pub run_given : List ℕ → List NumberedLine → List FoundRule → RulesGathered
run_given name lines run = record {
  positions = [];
  rules = [];
  reported = record { message = run_reported name lines (map (λ rule. rule.it) run); lines = None } ∷ [];
  list = map (λ rule. value_entry name lines rule.it rule.sketch) run;
}
