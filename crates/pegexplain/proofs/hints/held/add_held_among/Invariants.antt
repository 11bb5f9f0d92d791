use Rattle.std.proofs.Common.{◌≡◌, ◌++◌, map, drop}
use Rattle.pegread.specs.PegViews.{pattern_of}
use Rattle.pegexplain.specs.HeldDefinitions.{held_among}
use Rattle.pegexplain.specs.CodeLeaves.{leaf_found, held_found}
use Rattle.pegexplain.proofs.hints.held.add_held_among.Given as goal

abbrev pub invariant-loop-leaf : goal.invariant-loop-leaf
invariant-loop-leaf l = record {
  index : l.position ≡ l.leaf-index;
  same : map held_found l.found.items ++ held_among l.rule (pattern_of l.body) l.position
      (map leaf_found (drop l.leaf-index l.leaves))
      ≡ map held_found l.fn.found.items ++ held_among l.rule (pattern_of l.body) 0 (map leaf_found l.leaves);
}
