use Rattle.std.proofs.Common.{◌≡◌, ◌+◌, ◌-◌, ◌≤◌, drop, map}
use Rattle.abnfblocks.specs.TextLines.{numbered}
use Rattle.abnftexts.specs.WrittenLists.{lines_alike}
use Rattle.abnftexts.proofs.lists.first_changed.Given as goal

abbrev pub invariant-loop-count : goal.invariant-loop-count
invariant-loop-count l = record {
  within : l.count ≤ l.size;
  same : l.count + lines_alike (drop l.count (map numbered l.lines)) (drop l.count (map numbered l.written))
      ≡ lines_alike (map numbered l.lines) (map numbered l.written);
}

abbrev pub decreases-loop-count : goal.decreases-loop-count
decreases-loop-count l = l.size - l.count
