use Rattle.diagnostics.specs.MentionLines.{mention_lines_by}
use Rattle.pegexplain.specs.CodeLeaves.{held_found}
use Rattle.pegexplain.specs.PegHints.{held_reported}
use Rattle.pegexplain.proofs.PegHintsLemmas.{first-reported}
use Rattle.pegexplain.proofs.hints.held.push_first_helds.Goals as goal

pub returns : goal.returns
returns c = first-reported held_found (held_reported (mention_lines_by c.args.positions.now.positions))
    c.args.helds.now c.min-shown.result _ _ _
    c.min-shown.ensures c.in_ok-push_helds.ensures c.in_ok-push_more.ensures
