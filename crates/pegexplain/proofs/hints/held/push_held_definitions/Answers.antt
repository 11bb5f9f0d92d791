use Rattle.std.proofs.Common.{◌++◌, ◌∙◌, ap, map, List}
use Rattle.diagnostics.specs.MentionLines.{mention_lines_by}
use Rattle.pegexplain.specs.HeldDefinitions.{HeldAt}
use Rattle.pegexplain.specs.CodeLeaves.{held_found}
use Rattle.pegexplain.specs.PegHints.{helds_reported}
use Rattle.pegexplain.proofs.hints.held.push_held_definitions.Goals as goal

pub returns : goal.returns
returns c =
    let lines = mention_lines_by c.args.positions.now.positions in
    c.in_ok-push_first_helds.ensures ∙ ap (λ (es : List HeldAt). c.args.out.now.items ++ helds_reported lines es)
    (ap (map held_found) c.deref.ensures.value ∙ c.in_ok-helds.ensures)
