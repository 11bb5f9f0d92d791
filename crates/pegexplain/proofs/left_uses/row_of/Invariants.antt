-- The ids of the uses so far.
use Rattle.std.proofs.Common.{◌≡◌, map, take}
use Rattle.std.specs.List.{flat_map}
use Rattle.ruletable.specs.Rules.{find_in}
use Rattle.pegexplain.specs.FoundUses.{use_found}
use Rattle.pegexplain.specs.LeftUses.{use_ids}
use Rattle.pegexplain.proofs.left_uses.row_of.Given as goal

abbrev pub invariant-loop-found : goal.invariant-loop-found
invariant-loop-found l = l.row.items
    ≡ flat_map (use_ids (find_in l.rules)) (map use_found (take l.found-index l.found-items))
