use Rattle.std.proofs.Common.{take}
use Rattle.fixpoint.specs.UserLists.{AddsAll}
use Rattle.fixpoint.proofs.needs.Users.add_all.Given as goal

abbrev pub invariant-loop-m : goal.invariant-loop-m
invariant-loop-m l = AddsAll (take l.m-index l.row) l.n l.initial.self l.self
