use Rattle.std.proofs.Common.{◌≡◌, map, drop}
use Rattle.std.specs.List.{find}
use Rattle.diagnostics.specs.BodyMentions.{mentioned_at}
use Rattle.diagnostics.specs.DefinitionHeads.{defined_at}
use Rattle.diagnostics.proofs.StandingProseLemmas.{is_prose_in}
use Rattle.diagnostics.proofs.noteplaces.prose.standing_prose.Given as goal

abbrev pub invariant-loop-mention : goal.invariant-loop-mention
invariant-loop-mention l =
    find (is_prose_in (map defined_at l.heads) (defined_at l.rule))
    (map (λ m. mentioned_at m.now) (drop l.mention-index l.mentions))
    ≡ find (is_prose_in (map defined_at l.heads) (defined_at l.rule)) (map (λ m. mentioned_at m.now) l.mentions)
