use Rattle.std.proofs.Common.{ap}
use Rattle.std.specs.Prelude.{codes}
use Rattle.diagnostics.specs.DefinitionHeads.{defined_at}
use Rattle.diagnostics.specs.NoteLines.{more_reported, name_line}
use Rattle.diagnostics.proofs.AgainLinesLemmas.{shown-lines, more-left, agains-join}
use Rattle.diagnostics.proofs.noteplaces.lines.push_agains.Goals as goal

pub returns : goal.returns
returns c =
    agains-join _ _ _ _ _ _ _ c.in_ok-push_name_lines.ensures
    (shown-lines (λ h. defined_at h.now) (name_line (codes "is defined again")) c.args.heads.now c.min-shown.result
    c.min-shown.ensures)
    c.in_ok-push_more.ensures
    (ap more_reported (more-left (λ h. defined_at h.now) c.args.heads.now c.min-shown.result c.min-shown.ensures))
