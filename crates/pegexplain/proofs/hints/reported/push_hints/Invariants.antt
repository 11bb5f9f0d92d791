use Rattle.std.proofs.Common.{◌≡◌, ◌++◌, map, take}
use Rattle.std.specs.List.{flat_map}
use Rattle.diagnostics.specs.MentionLines.{mention_lines_by}
use Rattle.pegexplain.specs.CodeHints.{hint_found, literal_at}
use Rattle.pegexplain.specs.PegHints.{hint_reported}
use Rattle.pegexplain.proofs.hints.reported.push_hints.Given as goal

abbrev pub invariant-loop-hint : goal.invariant-loop-hint
invariant-loop-hint l = l.out.items ≡ l.fn.out.items
    ++ flat_map (hint_reported (literal_at l.positions.rules) (mention_lines_by l.positions.positions))
    (map hint_found (take l.hint-index l.hints))
