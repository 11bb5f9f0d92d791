use Rattle.diagnostics.specs.MentionLines.{mention_lines_by}
use Rattle.pegexplain.specs.CodeHints.{hint_found, literal_at}
use Rattle.pegexplain.specs.PegHints.{hint_reported}
use Rattle.pegexplain.proofs.PegHintsLemmas.{first-reported}
use Rattle.pegexplain.proofs.hints.reported.push_first_hints.Goals as goal

pub returns : goal.returns
returns c = first-reported hint_found
    (hint_reported (literal_at c.args.positions.now.rules) (mention_lines_by c.args.positions.now.positions))
    c.args.hints.now c.min-shown.result _ _ _
    c.min-shown.ensures c.in_ok-push_hints.ensures c.in_ok-push_more.ensures
