-- The name that is given, or else the first use.
use Rattle.std.proofs.Common.{map, ◌∙◌, sym, refl}
use Rattle.diagnostics.specs.BodyMentions.{mentioned_at}
use Rattle.diagnostics.specs.DefinitionHeads.{defined_at}
use Rattle.diagnostics.specs.FirstMentions.{uses_of}
use Rattle.diagnostics.proofs.FirstMentionLemmas.{first-some}
use Rattle.diagnostics.proofs.noteplaces.uses.used_form.Goals as goal

pub returns-then-is_given_name : goal.returns-then-is_given_name
returns-then-is_given_name c =
    let positions = c.args.positions.now in
    let first = first-some positions.names (map defined_at positions.heads.items)
    (uses_of positions.names c.args.name.now (map mentioned_at positions.mentions.items)) in
    record {
      first = first.0;
      is_first = first.1;
      is = rw (sym c.is_given_name.ensures ∙ c.if-is_given_name.true) refl;
    }
