use Rattle.std.proofs.Common.{◌≡◌, drop}
use Rattle.diagnostics.specs.EditTests.{is_within_one}
use Rattle.diagnostics.proofs.near.is_within_one.Given as goal

abbrev pub invariant-loop-i : goal.invariant-loop-i
invariant-loop-i l = is_within_one (drop l.i l.a) (drop l.i l.b) ≡ is_within_one l.a l.b
