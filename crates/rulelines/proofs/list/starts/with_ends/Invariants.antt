use Rattle.rulelines.proofs.StartsLemmas.{HaveEndsTo}
use Rattle.rulelines.proofs.list.starts.with_ends.Given as goal

abbrev pub invariant-loop-bound : goal.invariant-loop-bound
invariant-loop-bound l = HaveEndsTo l.bounds l.bound-index l.all.items
