use Rattle.std.proofs.Common.{◌≤◌, ◌*◌, ◌-◌, ◌^◌}
use Rattle.pegnodes.specs.RunTables.{IterationsTo}
use Rattle.pegnodes.proofs.run_table.run_along.Given as goal

-- the bytes so far are taken, with no more evaluations than fit
abbrev pub invariant-loop-end : goal.invariant-loop-end
invariant-loop-end l = record {
  iterations : IterationsTo l.entries l.window l.from l.end l.evals;
  fits : l.evals ≤ (l.end - l.from) * 2 ^ 16;
}
