-- The uses and lines that are left say what all of them do.
use Rattle.std.proofs.Common.{◌≡◌, map, drop}
use Rattle.pegexplain.specs.FoundUses.{use_found}
use Rattle.pegexplain.specs.LeftLines.{is_left_use, line_of_first}
use Rattle.pegexplain.proofs.left_lines.first_left.Given as goal

abbrev pub invariant-loop-found : goal.invariant-loop-found
invariant-loop-found l = line_of_first (is_left_use l.name) (map use_found (drop l.found-index l.uses)) l.left
    ≡ line_of_first (is_left_use l.name) (map use_found l.uses) l.lines
