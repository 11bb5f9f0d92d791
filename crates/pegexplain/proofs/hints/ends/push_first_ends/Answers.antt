use Rattle.diagnostics.specs.MentionLines.{mention_lines_by}
use Rattle.pegexplain.specs.CodeLeaves.{rule_leaf_found}
use Rattle.pegexplain.specs.PegHints.{end_reported}
use Rattle.pegexplain.proofs.PegHintsLemmas.{first-reported}
use Rattle.pegexplain.proofs.hints.ends.push_first_ends.Goals as goal

pub returns : goal.returns
returns c = first-reported rule_leaf_found (end_reported (mention_lines_by c.args.positions.now.positions))
    c.args.ends.now c.min-shown.result _ _ _
    c.min-shown.ensures c.in_ok-push_ends.ensures c.in_ok-push_more.ensures
