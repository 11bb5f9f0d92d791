-- The table lists where they are.
use Rattle.std.proofs.Common.{◌≡◌, Global, List, ℕ, Vec, ap, map, sym, ◌∙◌, ◌==◌}
use Rattle.std.proofs.lemmas.Result.{IfOk-weaker}
use Rattle.std.specs.Borrow.{Bor}
use Rattle.std.specs.List.{filter, list_any}
use Rattle.ruletable.specs.Rules.{same_name}
use Rattle.diagnostics.specs.BodyMentions.{mentioned_at}
use Rattle.diagnostics.specs.DefinitionHeads.{DefinedAt, defined_at}
use Rattle.diagnostics.specs.NameIndexes.{is_called, stands_under}
use Rattle.diagnostics.specs.NumberLists.{items_at}
use Rattle.diagnostics.specs.declared.noteplaces.mentions.Mention.{Mention}
use Rattle.diagnostics.proofs.MentionsUnderLemmas.{any-mapped, filter-mapped, is_under}
use Rattle.diagnostics.proofs.NumberListsLemmas.{picked-mapped}
use Rattle.diagnostics.proofs.noteplaces.uses.mentions_under.Goals as goal

pub returns : goal.returns
returns c =
    let positions = c.args.positions.now in
    let name : List ℕ = c.args.name.now in
    let definitions : List DefinedAt = map defined_at positions.heads.items in
    IfOk-weaker c.items_at.result
    (λ (v : Vec (Bor Mention) Global). map (λ x. x.now) v.items
    ≡ items_at c.deref.result.now c.in_ok-indexes.indexes.now)
    (λ (v : Vec (Bor Mention) Global). map (λ m. mentioned_at m.now) v.items
    ≡ filter (is_under positions.names definitions name) (map mentioned_at positions.mentions.items))
    (λ (v : Vec (Bor Mention) Global) e. picked-mapped mentioned_at (is_under positions.names definitions name)
    (stands_under positions.names positions.heads.items name)
    (λ (m : Mention). sym (any-mapped defined_at (λ d. d.start == m.within)
    (filter (is_called positions.names name) positions.heads.items))
    ∙ ap (list_any (λ (d : DefinedAt). d.start == m.within))
    (filter-mapped defined_at (λ d. same_name positions.names name d.name) positions.heads.items))
    positions.mentions.items c.in_ok-indexes.indexes.now v.items
    (e ∙ ap (λ xs. items_at xs c.in_ok-indexes.indexes.now) c.deref.ensures.value)
    (c.in_ok-indexes.ensures ∙ positions.bodies_listed name)) c.items_at.ensures
