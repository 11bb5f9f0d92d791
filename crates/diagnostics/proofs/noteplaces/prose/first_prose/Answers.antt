use Rattle.std.proofs.Common.{◌≡◌, ◌∙◌, Some, None, ap, map, sym, Option}
use Rattle.std.specs.Prelude.{option_map}
use Rattle.diagnostics.specs.BodyMentions.{mentioned_at}
use Rattle.diagnostics.specs.DefinitionHeads.{defined_at}
use Rattle.diagnostics.specs.FirstMentions.{rule_named}
use Rattle.diagnostics.proofs.StandingProseLemmas.{prose_found, prose_nowhere, starts_rise_too}
use Rattle.diagnostics.proofs.noteplaces.prose.first_prose.Goals as goal

pub standing_prose-requires : goal.standing_prose-requires
standing_prose-requires c = rw c.deref.ensures.value c.args.positions.now.rise

pub returns-in_default : goal.returns-in_default
returns-in_default c =
    let positions = c.args.positions.now in
    let definitions = map defined_at positions.heads.items in
    let none : rule_named positions.names definitions c.args.name.now ≡ None =
    sym c.in_ok-rule.ensures ∙ ap (option_map (λ h. defined_at h.now)) c.in_default.is in
    sym (prose_nowhere positions.names c.args.name.now definitions (map mentioned_at positions.mentions.items) none)

pub returns : goal.returns
returns c =
    let positions = c.args.positions.now in
    let definitions = map defined_at positions.heads.items in
    let own : rule_named positions.names definitions c.args.name.now ≡ Some (defined_at c.in-Some.rule.now) =
    sym c.in_ok-rule.ensures ∙ ap (option_map (λ h. defined_at h.now)) c.in-Some.is in
    let found = (let k = c.standing_prose.ensures in
    rw (c.deref.ensures.value, c.deref-2.ensures.value, c.in_ok-mentions.ensures) at k) in
    found ∙ prose_found positions.names c.args.name.now definitions (defined_at c.in-Some.rule.now)
    (map mentioned_at positions.mentions.items) (starts_rise_too 0 positions.heads.items positions.rise) own
