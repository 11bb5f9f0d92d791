use Rattle.std.proofs.Common.{◌≡◌, ◌++◌, drop}
use Rattle.fixpoint.specs.StepRows.{rows_of}
use Rattle.pegnodes.specs.Nodes.{shapes_of}
use Rattle.matchfailure.specs.ReportOrder.{first_node, use_rows}
use Rattle.matchfailure.proofs.explain.uses.use_rows.Given as goal

abbrev pub invariant-loop-id : goal.invariant-loop-id
invariant-loop-id l = rows_of l.rows.items ++ use_rows (shapes_of l.peg.nodes)
    (first_node l.peg.bodies l.id) (drop l.id l.peg.bodies) ≡ use_rows (shapes_of l.peg.nodes) 0 l.peg.bodies
