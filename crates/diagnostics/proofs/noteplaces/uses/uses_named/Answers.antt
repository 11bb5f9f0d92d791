-- The table lists where they are.
use Rattle.std.proofs.Common.{◌≡◌, Global, Vec, ap, map, refl, ◌∙◌}
use Rattle.std.proofs.lemmas.Result.{IfOk-weaker}
use Rattle.std.specs.Borrow.{Bor}
use Rattle.std.specs.Prelude.{◌&&◌}
use Rattle.ruletable.specs.Rules.{same_name}
use Rattle.diagnostics.specs.BodyMentions.{is_kind, mentioned_at}
use Rattle.diagnostics.specs.FirstMentions.{uses_of}
use Rattle.diagnostics.specs.NameIndexes.{uses_name}
use Rattle.diagnostics.specs.NumberLists.{items_at}
use Rattle.diagnostics.specs.declared.noteplaces.mentions.Mention.{Mention}
use Rattle.diagnostics.specs.declared.noteplaces.mentions.MentionKind.TheVariants.{Use}
use Rattle.diagnostics.proofs.NumberListsLemmas.{picked-mapped}
use Rattle.diagnostics.proofs.noteplaces.uses.uses_named.Goals as goal

pub returns : goal.returns
returns c =
    let positions = c.args.positions.now in
    IfOk-weaker c.items_at.result
    (λ (v : Vec (Bor Mention) Global). map (λ x. x.now) v.items
    ≡ items_at c.deref.result.now c.in_ok-indexes.indexes.now)
    (λ (v : Vec (Bor Mention) Global). map (λ m. mentioned_at m.now) v.items
    ≡ uses_of positions.names c.args.name.now (map mentioned_at positions.mentions.items))
    (λ v e. picked-mapped mentioned_at (λ m. is_kind Use m.kind && same_name positions.names c.args.name.now m.text)
    (uses_name positions.names c.args.name.now) (λ m. refl) positions.mentions.items c.in_ok-indexes.indexes.now v.items
    (e ∙ ap (λ xs. items_at xs c.in_ok-indexes.indexes.now) c.deref.ensures.value)
    (c.in_ok-indexes.ensures ∙ positions.uses_listed c.args.name.now)) c.items_at.ensures
