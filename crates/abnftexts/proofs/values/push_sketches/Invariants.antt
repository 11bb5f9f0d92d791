use Rattle.std.proofs.Common.{map, take}
use Rattle.abnftexts.specs.TakenRules.{AddSketches, text_rows}
use Rattle.rfcvalues.specs.RuleSketches.{rule_sketched}
use Rattle.abnftexts.proofs.values.push_sketches.Given as goal

-- the sketches of what is found so far follow others
abbrev pub invariant-loop-it : goal.invariant-loop-it
invariant-loop-it l = AddSketches (text_rows l.rows) (take l.it-index l.found) (map rule_sketched l.fn.sketches.items)
    (map rule_sketched l.sketches.items)
