use Rattle.std.proofs.Common.{◌≡◌, drop}
use Rattle.std.specs.List.{list_any}
use Rattle.pegprint.specs.PegStands.{allows}
use Rattle.pegprint.proofs.faults.phrases.allows_any.Given as goal

abbrev pub invariant-loop-kind : goal.invariant-loop-kind
invariant-loop-kind l = list_any (allows l.position) (drop l.kind-index l.kinds) ≡ list_any (allows l.position) l.kinds
