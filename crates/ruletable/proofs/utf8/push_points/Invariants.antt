use Rattle.std.proofs.Common.{◌≡◌}
use Rattle.ruletable.specs.Utf8Text.{numbers}
use Rattle.ruletable.proofs.utf8.push_points.Given as goal

abbrev pub invariant-loop-c : goal.invariant-loop-c
invariant-loop-c l = numbers l.points.items ≡ l.yielded
