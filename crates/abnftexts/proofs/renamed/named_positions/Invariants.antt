use Rattle.std.proofs.Common.{◌++◌, List, map}
use Rattle.abnftexts.specs.CodeUses.{is_defined}
use Rattle.abnftexts.specs.GivenRules.{text_rule}
use Rattle.abnftexts.specs.NamedRules.{ArePositionsNamed}
use Rattle.abnftexts.specs.RulesGathered.{RuleLines, lines_placed}
use Rattle.abnftexts.proofs.renamed.named_positions.Given as goal

-- the positions to come complete those so far
abbrev pub invariant-loop-position : goal.invariant-loop-position
invariant-loop-position l = (others : List RuleLines)
    → ArePositionsNamed (is_defined l.names) (map text_rule l.left)
    (map lines_placed l.position-iterator.rest.items) others
    → ArePositionsNamed (is_defined l.names) (map text_rule l.rules) (map lines_placed l.fn.positions.items)
    (map lines_placed l.named.items ++ others)
