use Rattle.std.proofs.Common.{◌≡◌, ◌++◌, map, take}
use Rattle.flatgrammar.specs.ItemClosures.{dot}
use Rattle.earleyitems.proofs.set_dots.push_items.Given as goal

abbrev pub invariant-loop-item : goal.invariant-loop-item
invariant-loop-item l = l.out.items ≡ l.fn.out.items ++ map (λ a. dot a.node a.step) (take l.item-index l.items)
