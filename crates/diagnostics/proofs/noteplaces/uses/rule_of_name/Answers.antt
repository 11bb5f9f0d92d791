-- It is the first that the table lists.
use Rattle.std.proofs.Common.{◌≡◌, [], ap, sym, ◌∙◌, ℕ, List}
use Rattle.std.specs.Prelude.{option_map, option_copied, slice_get}
use Rattle.ruletable.specs.Rules.{same_name}
use Rattle.diagnostics.specs.DefinitionHeads.{defined_at}
use Rattle.diagnostics.specs.NameIndexes.{is_called}
use Rattle.diagnostics.specs.NumberLists.{positions_from}
use Rattle.diagnostics.proofs.MentionsUnderLemmas.{find-mapped}
use Rattle.diagnostics.proofs.NumberListsLemmas.{first-passes, item-got, map-twice, none-passes}
use Rattle.diagnostics.proofs.noteplaces.uses.rule_of_name.Goals as goal

pub returns-in-Some : goal.returns-in-Some
returns-in-Some c =
    let positions = c.args.positions.now in
    let name = c.args.name.now in
    let at = sym c.first.ensures.value ∙ ap option_copied c.in-Some.is in
    let is : c.in_ok-indexes.indexes.now ≡ positions_from 0 (is_called positions.names name) positions.heads.items =
    c.in_ok-indexes.ensures ∙ positions.heads_listed name in
    let got = (let g = c.get.ensures.lookup in rw c.deref.ensures.value at g) in
    map-twice defined_at c.get.result
    ∙ ap (option_map defined_at) (item-got positions.heads.items c.in-Some.position.now c.get.result got
    ∙ first-passes (is_called positions.names name) [] positions.heads.items c.in-Some.position.now
    (ap (λ (l : List ℕ). slice_get l 0) (sym is) ∙ at))
    ∙ sym (find-mapped defined_at (λ d. same_name positions.names name d.name) positions.heads.items)

pub returns-in-None : goal.returns-in-None
returns-in-None c =
    let positions = c.args.positions.now in
    let name = c.args.name.now in
    let at = sym c.first.ensures.value ∙ ap option_copied c.in-None.is in
    let is : c.in_ok-indexes.indexes.now ≡ positions_from 0 (is_called positions.names name) positions.heads.items =
    c.in_ok-indexes.ensures ∙ positions.heads_listed name in
    sym (find-mapped defined_at (λ d. same_name positions.names name d.name) positions.heads.items
    ∙ ap (option_map defined_at) (none-passes (is_called positions.names name) 0 positions.heads.items
    (ap (λ (l : List ℕ). slice_get l 0) (sym is) ∙ at)))
