use Rattle.std.proofs.Common.{◌≡◌, ◌++◌, replicate}
use Rattle.abnftexts.proofs.printed.push_empty.Given as goal

-- the lines to come complete those so far
abbrev pub invariant-loop-left : goal.invariant-loop-left
invariant-loop-left l = l.out.items ++ replicate l.left 10 ≡ l.fn.out.items ++ replicate l.count 10

abbrev pub decreases-loop-left : goal.decreases-loop-left
decreases-loop-left l = l.left
