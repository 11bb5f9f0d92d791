-- The lines after a note of the rule.
use Rattle.std.proofs.Common.{ap, map, ◌∙◌, ◌++◌}
use Rattle.diagnostics.specs.DefinitionHeads.{defined_at}
use Rattle.diagnostics.specs.NoteLines.{defined_line}
use Rattle.pegexplain.proofs.left_notes.push_definition.Goals as goal

pub returns : goal.returns
returns c = c.in_ok-extend_from_slice.ensures.items ∙ ap (λ l. c.args.out.now.items ++ l)
    (c.deref.ensures.value ∙ c.in_ok-lines.ensures.is
    ∙ ap (defined_line c.args.positions.now.positions.names (map defined_at c.args.positions.now.positions.heads.items))
    c.in_ok-name.ensures.items)
