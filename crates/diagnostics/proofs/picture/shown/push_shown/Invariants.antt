use Rattle.std.proofs.Common.{◌≡◌, ◌++◌, take}
use Rattle.diagnostics.specs.ShownBytes.{shown}
use Rattle.diagnostics.proofs.picture.shown.push_shown.Given as goal

abbrev pub invariant-loop-b : goal.invariant-loop-b
invariant-loop-b l = l.out.items ≡ l.fn.out.items ++ shown (take l.b-index l.bytes)
