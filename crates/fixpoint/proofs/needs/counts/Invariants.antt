use Rattle.std.proofs.Common.{◌≡◌, take}
use Rattle.fixpoint.specs.Demands.{demands_of}
use Rattle.fixpoint.specs.NeedCounts.{counts_of}
use Rattle.fixpoint.proofs.needs.counts.Given as goal

abbrev pub invariant-loop-need : goal.invariant-loop-need
invariant-loop-need l = l.counts.items ≡ counts_of (demands_of (take l.need-index l.needs))
