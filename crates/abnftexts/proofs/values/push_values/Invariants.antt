use Rattle.std.proofs.Common.{◌≡◌, ◌++◌, drop, map}
use Rattle.std.specs.List.{zip}
use Rattle.abnfblocks.specs.TextLines.{numbered}
use Rattle.abnftexts.specs.RulesGathered.{entry_listed}
use Rattle.abnftexts.specs.ValueRuns.{value_entry}
use Rattle.rfcvalues.specs.RuleSketches.{rule_sketched}
use Rattle.abnftexts.proofs.values.push_values.Given as goal

-- the entries to come complete those so far
abbrev pub invariant-loop-at : goal.invariant-loop-at
invariant-loop-at l = map entry_listed l.list.items
    ++ map (λ p. value_entry l.rows.name.now (map numbered l.rows.lines.items) p.0 (rule_sketched p.1))
    (zip (drop l.at l.run) (drop l.at l.sketches))
    ≡ map entry_listed l.fn.list.items
    ++ map (λ p. value_entry l.rows.name.now (map numbered l.rows.lines.items) p.0 (rule_sketched p.1))
    (zip l.run l.sketches)
