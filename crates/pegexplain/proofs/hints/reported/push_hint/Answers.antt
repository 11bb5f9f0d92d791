use Rattle.pegexplain.specs.CodeHints.{hidden_found, literal_at}
use Rattle.pegexplain.proofs.PegHintsLemmas.{hint-join}
use Rattle.pegexplain.proofs.hints.reported.push_hint.Goals as goal

pub returns : goal.returns
returns c = hint-join (literal_at c.args.positions.now.rules) _ _ _ c.args.hint.rule.now
    (hidden_found c.args.hint.hidden) _ _ c.in_ok-push_rule.ensures c.in_ok-push_line.ensures c.in_ok-line.ensures
