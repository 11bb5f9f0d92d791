-- The line after a note of the rule.
use Rattle.std.proofs.Common.{map, ap, ◌∙◌}
use Rattle.std.proofs.lemmas.Result.{IfOk-weaker}
use Rattle.diagnostics.specs.DefinitionHeads.{defined_at}
use Rattle.diagnostics.specs.NoteLines.{defined_line}
use Rattle.ruletable.specs.declared.table.NameCase.{NameCase}
use Rattle.abnfhints.proofs.barren.first_definition.Goals as goal

pub returns : goal.returns
returns c = IfOk-weaker c.explain_note.result _ _ (λ why reported. reported.is
    ∙ ap (defined_line c.args.positions.now.names (map defined_at c.args.positions.now.heads.items))
    c.in_ok-from_slice.ensures.items
    ∙ ap (λ (names : NameCase). defined_line names (map defined_at c.args.positions.now.heads.items) c.args.name.now)
    c.requires) c.explain_note.ensures
