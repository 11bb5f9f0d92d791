use Rattle.std.proofs.Common.{ap, codes, map}
use Rattle.abnftexts.specs.JoinedGrammar.{fate_reported}
use Rattle.abnftexts.specs.RulesGathered.{lines_placed}
use Rattle.abnftexts.proofs.JoinedGrammarLemmas.{fate-reported}
use Rattle.abnftexts.proofs.listed.push_fate.Goals as goal

pub returns-in_ok-extend_from_slice-in-Again : goal.returns-in_ok-extend_from_slice-in-Again
returns-in_ok-extend_from_slice-in-Again c =
    let positions = map lines_placed c.args.positions.now in
    fate-reported c.push_rule_position.result positions c.args.fate c.in-Again.number (codes "is given at ")
    c.args.out.now.items c.extend_from_slice-in-Again.new.self.items c.push_rule_position.new.out.items
    (ap (fate_reported positions) c.in-Again.is) c.in_ok-extend_from_slice-in-Again.ensures.items
    c.push_rule_position.ensures
