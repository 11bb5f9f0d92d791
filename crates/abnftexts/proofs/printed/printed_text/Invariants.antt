use Rattle.std.proofs.Common.{◌≡◌, ◌++◌, None, map, option_map, drop}
use Rattle.abnftexts.specs.JoinedGrammar.{ordered_rules, printed_after}
use Rattle.abnftexts.specs.RulesGathered.{lines_placed}
use Rattle.abnftexts.proofs.printed.printed_text.Given as goal

-- the rules to come complete what is printed so far
abbrev pub invariant-loop-number : goal.invariant-loop-number
invariant-loop-number l = l.out.items ++ printed_after (option_map (λ p. lines_placed p.now) l.before)
    (ordered_rules (map lines_placed l.positions) (drop l.number-index l.order))
    ≡ printed_after None (ordered_rules (map lines_placed l.positions) l.order)
