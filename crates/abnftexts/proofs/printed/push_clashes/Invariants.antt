use Rattle.std.proofs.Common.{◌≡◌, ◌++◌, map, take}
use Rattle.std.specs.List.{flat_map}
use Rattle.abnftexts.specs.GivenRules.{text_rule}
use Rattle.abnftexts.specs.JoinedGrammar.{clash_reported}
use Rattle.abnftexts.specs.RulesGathered.{lines_placed}
use Rattle.abnftexts.proofs.printed.push_clashes.Given as goal

abbrev pub invariant-loop-clash : goal.invariant-loop-clash
invariant-loop-clash l = l.out.items ≡ l.fn.out.items
    ++ flat_map (clash_reported (map lines_placed l.positions) (map text_rule l.rules)) (take l.clash-index l.clashes)
