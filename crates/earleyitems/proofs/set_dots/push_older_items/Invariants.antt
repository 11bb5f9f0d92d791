use Rattle.std.proofs.Common.{◌≡◌, ◌++◌, take}
use Rattle.earleyitems.specs.ChartSets.{older_dots}
use Rattle.earleyitems.proofs.set_dots.push_older_items.Given as goal

abbrev pub invariant-loop-item : goal.invariant-loop-item
invariant-loop-item l = l.out.items ≡ l.fn.out.items ++ older_dots l.n (take l.item-index l.items)
