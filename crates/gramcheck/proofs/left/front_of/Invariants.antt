use Rattle.std.proofs.Common.{◌≡◌, ◌++◌, drop, take}
use Rattle.gramcheck.specs.NodeRows.{front}
use Rattle.gramcheck.proofs.left.front_of.Given as goal

abbrev pub invariant-loop-n : goal.invariant-loop-n
invariant-loop-n l = take l.n l.members ++ front l.nulls (drop l.n l.members) ≡ front l.nulls l.members
