use Rattle.std.proofs.Common.{◌≡◌, ◌++◌, map, drop}
use Rattle.pegread.specs.PegViews.{pattern_of}
use Rattle.pegexplain.specs.BodyLeaves.{ends_among}
use Rattle.pegexplain.specs.CodeLeaves.{leaf_found, rule_leaf_found}
use Rattle.pegexplain.proofs.hints.ends.add_ends_among.Given as goal

abbrev pub invariant-loop-leaf : goal.invariant-loop-leaf
invariant-loop-leaf l = record {
  index : l.position ≡ l.leaf-index;
  same : map rule_leaf_found l.found.items ++ ends_among l.rule (pattern_of l.body) l.position
      (map leaf_found (drop l.leaf-index l.leaves))
      ≡ map rule_leaf_found l.fn.found.items ++ ends_among l.rule (pattern_of l.body) 0 (map leaf_found l.leaves);
}
