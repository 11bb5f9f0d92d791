use Rattle.std.proofs.Common.{◌≡◌, ◌++◌, map, drop}
use Rattle.abnftexts.specs.GivenRules.{text_rule}
use Rattle.abnftexts.specs.JoinedGrammar.{listed_from, rules_listed}
use Rattle.abnftexts.specs.RulesGathered.{entry_listed, lines_placed}
use Rattle.abnftexts.proofs.listed.listed_text.Given as goal

-- the lines of the entries to come complete those so far
abbrev pub invariant-loop-line : goal.invariant-loop-line
invariant-loop-line l = l.out.items
    ++ listed_from (map lines_placed l.positions) (map text_rule l.rules) l.number (drop l.number l.fates)
    (map entry_listed (drop l.line-index l.list))
    ≡ rules_listed (map lines_placed l.positions) (map text_rule l.rules) l.fates (map entry_listed l.list)
