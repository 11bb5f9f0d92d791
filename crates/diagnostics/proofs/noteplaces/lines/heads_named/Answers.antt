-- The table lists where they are.
use Rattle.std.proofs.Common.{◌≡◌, Global, Vec, ap, map, refl, ◌∙◌}
use Rattle.std.proofs.lemmas.Result.{IfOk-weaker}
use Rattle.std.specs.Borrow.{Bor}
use Rattle.ruletable.specs.Rules.{same_name}
use Rattle.diagnostics.specs.DefinitionHeads.{defined_at}
use Rattle.diagnostics.specs.NameIndexes.{is_called}
use Rattle.diagnostics.specs.NoteLines.{named}
use Rattle.diagnostics.specs.NumberLists.{items_at}
use Rattle.diagnostics.specs.declared.noteplaces.heads.Head.{Head}
use Rattle.diagnostics.proofs.NumberListsLemmas.{picked-mapped}
use Rattle.diagnostics.proofs.noteplaces.lines.heads_named.Goals as goal

pub returns : goal.returns
returns c =
    let positions = c.args.positions.now in
    IfOk-weaker c.items_at.result
    (λ (v : Vec (Bor Head) Global). map (λ x. x.now) v.items
    ≡ items_at c.deref.result.now c.in_ok-indexes.indexes.now)
    (λ (v : Vec (Bor Head) Global). map (λ h. defined_at h.now) v.items
    ≡ named positions.names c.args.name.now (map defined_at positions.heads.items))
    (λ v e. picked-mapped defined_at (λ d. same_name positions.names c.args.name.now d.name)
    (is_called positions.names c.args.name.now) (λ h. refl) positions.heads.items c.in_ok-indexes.indexes.now v.items
    (e ∙ ap (λ xs. items_at xs c.in_ok-indexes.indexes.now) c.deref.ensures.value)
    (c.in_ok-indexes.ensures ∙ positions.heads_listed c.args.name.now)) c.items_at.ensures
