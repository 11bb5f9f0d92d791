use Rattle.gramcheck.specs.NodeRows.{MarksNames}
use Rattle.pegnodes.specs.Nodes.{shapes_of}
use Rattle.gramcheck.proofs.left.mark_names.Given as goal

abbrev pub invariant-loop-n : goal.invariant-loop-n
invariant-loop-n l = MarksNames (shapes_of l.nodes) l.n l.marks l.initial.found l.found
