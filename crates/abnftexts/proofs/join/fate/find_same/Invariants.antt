use Rattle.std.proofs.Common.{◌≡◌, ◌+◌, ◌-◌, ◌≤◌, not, false, length, map, drop}
use Rattle.std.specs.List.{prefix_len}
use Rattle.abnftexts.specs.GivenRules.{text_rule, is_same_rule, first_same}
use Rattle.abnftexts.proofs.join.fate.find_same.Given as goal

abbrev pub invariant-loop-position : goal.invariant-loop-position
invariant-loop-position l = record {
  within : l.position ≤ length l.rules;
  same : l.position
      + prefix_len (λ other. not (is_same_rule false (text_rule l.rule) other))
      (drop l.position (map text_rule l.rules))
      ≡ first_same (text_rule l.rule) (map text_rule l.rules);
}

abbrev pub decreases-loop-position : goal.decreases-loop-position
decreases-loop-position l = length l.rules - l.position
