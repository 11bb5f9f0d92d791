use Rattle.std.proofs.Common.{◌≡◌, length}
use Rattle.memo.specs.declared.task.MatchTask.TheVariants.{Eval}
use Rattle.packrat.specs.Stands.{Stands}
use Rattle.packrat.specs.LoopIterations.{Ask}
use Rattle.packrat.specs.IterationsLeft.{left}
use Rattle.packrat.proofs.machine.Machine.evaluate.Given as goal

abbrev pub invariant-asks : goal.invariant-asks
invariant-asks l = record {
  rows : l.self.log.rows ≡ length l.peg.nodes;
  stands : Stands l.peg l.window l.more l.peg.keys (Eval l.fn.root 0) (Ask (Eval l.node l.position)) l.self.frames
      l.self.log.stored l.self.events l.self.begun;
}

abbrev pub decreases-asks : goal.decreases-asks
decreases-asks l = left l.peg l.window (Ask (Eval l.node l.position)) l.self.frames l.self.begun
