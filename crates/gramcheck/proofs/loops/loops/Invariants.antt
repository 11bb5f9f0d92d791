use Rattle.gramcheck.specs.Loops.{LoopsTo}
use Rattle.pegnodes.specs.Nodes.{shapes_of}
use Rattle.gramcheck.proofs.loops.loops.Given as goal

abbrev pub invariant-loop-n : goal.invariant-loop-n
invariant-loop-n l = LoopsTo (shapes_of l.nodes) l.nulls l.marks.items l.n
