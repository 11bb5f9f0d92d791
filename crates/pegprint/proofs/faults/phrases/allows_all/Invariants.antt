use Rattle.std.proofs.Common.{◌≡◌, drop}
use Rattle.std.specs.List.{list_all}
use Rattle.pegprint.specs.PegStands.{allows}
use Rattle.pegprint.proofs.faults.phrases.allows_all.Given as goal

abbrev pub invariant-loop-kind : goal.invariant-loop-kind
invariant-loop-kind l = list_all (allows l.position) (drop l.kind-index l.kinds) ≡ list_all (allows l.position) l.kinds
