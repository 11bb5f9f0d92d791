-- The whole list is that of the maximal ranges.
use Rattle.ruletable.proofs.RunsLemmas.{are_runs}
use Rattle.ruletable.proofs.byte_set.ByteSet.runs.Goals as goal

pub returns-clause-exact : goal.returns-clause-exact
returns-clause-exact c = rw c.new.ensures (are_runs c.args.self.now)
