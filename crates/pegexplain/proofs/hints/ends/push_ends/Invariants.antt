use Rattle.std.proofs.Common.{◌≡◌, ◌++◌, map, take}
use Rattle.std.specs.List.{flat_map}
use Rattle.diagnostics.specs.MentionLines.{mention_lines_by}
use Rattle.pegexplain.specs.CodeLeaves.{rule_leaf_found}
use Rattle.pegexplain.specs.PegHints.{end_reported}
use Rattle.pegexplain.proofs.hints.ends.push_ends.Given as goal

abbrev pub invariant-loop-end : goal.invariant-loop-end
invariant-loop-end l = l.out.items ≡ l.fn.out.items
    ++ flat_map (end_reported (mention_lines_by l.positions.positions)) (map rule_leaf_found (take l.end-index l.ends))
