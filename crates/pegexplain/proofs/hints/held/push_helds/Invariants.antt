use Rattle.std.proofs.Common.{◌≡◌, ◌++◌, map, take}
use Rattle.std.specs.List.{flat_map}
use Rattle.diagnostics.specs.MentionLines.{mention_lines_by}
use Rattle.pegexplain.specs.CodeLeaves.{held_found}
use Rattle.pegexplain.specs.PegHints.{held_reported}
use Rattle.pegexplain.proofs.hints.held.push_helds.Given as goal

abbrev pub invariant-loop-held : goal.invariant-loop-held
invariant-loop-held l = l.out.items ≡ l.fn.out.items
    ++ flat_map (held_reported (mention_lines_by l.positions.positions)) (map held_found (take l.held-index l.helds))
