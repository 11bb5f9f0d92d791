use Rattle.std.proofs.Common.{◌≡◌, drop}
use Rattle.abnftexts.specs.ValueRuns.{last_found}
use Rattle.abnftexts.proofs.values.last_of.Given as goal

abbrev pub invariant-loop-it : goal.invariant-loop-it
invariant-loop-it l = last_found l.last (drop l.it-index l.others) ≡ last_found l.fn.first l.fn.others
