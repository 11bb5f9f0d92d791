-- The mentions in the definitions of the name have all that are in the first.
use Rattle.std.proofs.Common.{◌≡◌, Global, ℕ, Option, Vec, List, ap, map, sym, ◌∙◌}
use Rattle.std.specs.Prelude.{option_map}
use Rattle.std.proofs.lemmas.Result.{IfOk-weaker}
use Rattle.diagnostics.specs.BodyMentions.{MentionedAt, mentioned_at}
use Rattle.diagnostics.specs.DefinitionHeads.{DefinedAt, defined_at}
use Rattle.diagnostics.specs.MentionLines.{mention_lines_by, mention_lines_of, mentions_within}
use Rattle.diagnostics.proofs.MentionsUnderLemmas.{within-under}
use Rattle.diagnostics.proofs.noteplaces.lines_of_kind.mention_lines.Goals as goal

pub returns : goal.returns
returns c =
    let positions = c.args.positions.now in
    let definitions = map defined_at positions.heads.items in
    let mentions = map mentioned_at positions.mentions.items in
    let rule = sym c.in_ok-head.ensures ∙ ap (option_map (λ h. defined_at h.now)) c.in-Some.is in
    IfOk-weaker c.lines_within.result
    (λ (v : Vec ℕ Global). v.items ≡ map (λ m. m.line) (mentions_within c.args.kind c.in-Some.head.now.start
    (map (λ m. mentioned_at m.now) c.deref.result.now)))
    (λ (v : Vec ℕ Global). v.items ≡ mention_lines_by positions c.args.kind c.args.name.now)
    (λ v e. e ∙ ap (λ (ms : List MentionedAt). map (λ m. m.line) (mentions_within c.args.kind
    c.in-Some.head.now.start ms)) (ap (map (λ m. mentioned_at m.now)) c.deref.ensures.value ∙ c.in_ok-mentions.ensures)
    ∙ ap (map (λ m. m.line)) (within-under positions.names definitions c.args.name.now mentions c.args.kind
    (defined_at c.in-Some.head.now) rule)
    ∙ sym (ap (λ (o : Option DefinedAt). mention_lines_of c.args.kind o mentions) rule)) c.lines_within.ensures
