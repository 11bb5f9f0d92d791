use Rattle.std.proofs.Common.{subst}
use Rattle.pegnodes.specs.RunTables.{IsStop}
use Rattle.pegnodes.proofs.run_table.RunTable.new.Goals as goal

pub invariant_of-result : goal.invariant_of-result
invariant_of-result c = record {
  whole = c.in_ok-entries.ensures.count;
  stops = subst (λ v. IsStop v c.find_stop-stop.result) c.deref.ensures.value c.find_stop-stop.ensures;
}
