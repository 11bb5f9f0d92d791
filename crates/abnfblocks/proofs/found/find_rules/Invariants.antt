use Rattle.std.proofs.Common.{List, ◌++◌, map, drop}
use Rattle.abnfblocks.specs.TextLines.{numbered}
use Rattle.abnfblocks.specs.FoundRules.{AreFound}
use Rattle.abnfblocks.specs.declared.found.RuleSearch.{RuleSearch}
use Rattle.abnfblocks.proofs.found.find_rules.Given as goal

-- what is found among the lines to come completes what was found
abbrev pub invariant-loop-first : goal.invariant-loop-first
invariant-loop-first l = (others : List RuleSearch) → AreFound l.first (drop l.first (map numbered l.lines)) others
    → AreFound 0 (map numbered l.lines) (l.found.items ++ others)
