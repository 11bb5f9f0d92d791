use Rattle.std.proofs.Common.{map, take}
use Rattle.abnftexts.specs.TakenRules.{text_found}
use Rattle.abnftexts.specs.TextRules.{AreSketches, rules_seen}
use Rattle.rfcvalues.specs.RuleSketches.{rule_sketched}
use Rattle.abnftexts.proofs.taken.text_sketches.Given as goal

-- the sketches of the texts so far
abbrev pub invariant-loop-text : goal.invariant-loop-text
invariant-loop-text l = AreSketches (rules_seen (map text_found (take l.text-index l.texts)))
    (map rule_sketched l.sketches.items)
