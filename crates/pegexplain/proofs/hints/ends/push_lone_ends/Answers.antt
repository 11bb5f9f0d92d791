use Rattle.std.proofs.Common.{◌++◌, ◌∙◌, ap, map, List}
use Rattle.diagnostics.specs.MentionLines.{mention_lines_by}
use Rattle.pegexplain.specs.BodyLeaves.{RuleLeafAt}
use Rattle.pegexplain.specs.CodeLeaves.{rule_leaf_found}
use Rattle.pegexplain.specs.PegHints.{ends_reported}
use Rattle.pegexplain.proofs.hints.ends.push_lone_ends.Goals as goal

pub returns : goal.returns
returns c =
    let lines = mention_lines_by c.args.positions.now.positions in
    c.in_ok-push_first_ends.ensures ∙ ap (λ (es : List RuleLeafAt). c.args.out.now.items ++ ends_reported lines es)
    (ap (map rule_leaf_found) c.deref.ensures.value ∙ c.in_ok-ends.ensures)
