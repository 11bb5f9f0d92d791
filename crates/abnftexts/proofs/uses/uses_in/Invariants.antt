use Rattle.std.proofs.Common.{◌++◌, List, map, drop}
use Rattle.abnftexts.specs.JoinedGrammar.{ordered_rules}
use Rattle.abnftexts.specs.CodeUses.{name_used}
use Rattle.abnftexts.specs.RulesGathered.{lines_placed}
use Rattle.abnftexts.specs.UsedNames.{AreNameUses, UsedName}
use Rattle.abnftexts.proofs.uses.uses_in.Given as goal

-- the uses of the rules to come complete those so far
abbrev pub invariant-loop-number : goal.invariant-loop-number
invariant-loop-number l = (more : List UsedName)
    → AreNameUses (ordered_rules (map lines_placed l.positions) (drop l.number-index l.order)) more
    → AreNameUses (ordered_rules (map lines_placed l.positions) l.order) (map name_used l.uses.items ++ more)
