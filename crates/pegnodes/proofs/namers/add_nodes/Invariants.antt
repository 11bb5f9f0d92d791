use Rattle.pegnodes.specs.Namers.{AreNamersTo, name_rows}
use Rattle.pegnodes.specs.Nodes.{shapes_of}
use Rattle.pegnodes.proofs.namers.add_nodes.Given as goal

abbrev pub invariant-loop-n : goal.invariant-loop-n
invariant-loop-n l = AreNamersTo (name_rows l.bodies (shapes_of l.nodes)) l.n 0 l.namers
