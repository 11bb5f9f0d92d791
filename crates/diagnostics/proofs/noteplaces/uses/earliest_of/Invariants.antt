-- The first of those so far.
use Rattle.std.proofs.Common.{◌≤◌, length, map, drop}
use Rattle.std.specs.Prelude.{option_map}
use Rattle.diagnostics.specs.BodyMentions.{mentioned_at}
use Rattle.diagnostics.specs.DefinitionHeads.{defined_at}
use Rattle.diagnostics.specs.FirstMentions.{IsFirstIfAny}
use Rattle.diagnostics.specs.FoundMentions.{mention_found}
use Rattle.diagnostics.proofs.noteplaces.uses.earliest_of.Given as goal

abbrev pub invariant-loop-left : goal.invariant-loop-left
invariant-loop-left l = record {
  within : l.left ≤ length l.mentions;
  first : IsFirstIfAny l.positions.names (map defined_at l.positions.heads.items)
      (map (λ m. mentioned_at m.now) (drop l.left l.mentions)) (option_map mention_found l.found);
}

abbrev pub decreases-loop-left : goal.decreases-loop-left
decreases-loop-left l = l.left
