use Rattle.std.proofs.Common.{◌≡◌, ◌≤◌, ◌-◌, take, drop}
use Rattle.std.specs.List.{flat_map}
use Rattle.pegnodes.specs.Nodes.{shapes_of}
use Rattle.matchfailure.specs.ReportOrder.{named_id}
use Rattle.matchfailure.proofs.explain.uses.names_between.Given as goal

abbrev pub invariant-loop-n : goal.invariant-loop-n
invariant-loop-n l = record {
  low : l.first ≤ l.n;
  high : l.n - l.first ≤ l.last - l.first;
  row : l.row.items ≡ flat_map named_id (take (l.n - l.first) (drop l.first (shapes_of l.peg.nodes)));
}
