use Rattle.std.proofs.Common.{◌≡◌, ◌++◌, map, take}
use Rattle.std.specs.List.{flat_map}
use Rattle.diagnostics.specs.BodyMentions.{mentioned_at}
use Rattle.abnftexts.specs.CodeUses.{name_used}
use Rattle.abnftexts.specs.RulesGathered.{lines_placed}
use Rattle.abnftexts.specs.UsedNames.{used_at}
use Rattle.abnftexts.proofs.uses.push_mentions.Given as goal

abbrev pub invariant-loop-mention : goal.invariant-loop-mention
invariant-loop-mention l = map name_used l.uses.items ≡ map name_used l.fn.uses.items
    ++ flat_map (used_at (lines_placed l.position)) (map mentioned_at (take l.mention-index l.mentions))
