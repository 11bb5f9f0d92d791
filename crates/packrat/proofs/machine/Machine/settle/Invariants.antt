use Rattle.std.proofs.Common.{◌≡◌, ◌≤◌, ℕ, Bool, List, [], length}
use Rattle.memo.specs.declared.task.MatchTask.{MatchTask}
use Rattle.pegmatch.specs.Answers.{WasEnough}
use Rattle.packrat.specs.LoopIterations.{Answer}
use Rattle.packrat.specs.Stands.{Stands}
use Rattle.packrat.specs.IterationsLeft.{left}
use Rattle.packrat.proofs.machine.Machine.settle.Given as goal

abbrev pub invariant-frames : goal.invariant-frames
invariant-frames l = record {
  rows : l.self.log.rows ≡ length l.peg.nodes;
  stands : (window : List ℕ) (more : Bool) → WasEnough window more 0 → (root : MatchTask)
      → Stands l.peg window more l.peg.keys root (Answer l.fn.first) l.fn.self.frames l.fn.self.log.stored
      l.fn.self.events l.fn.self.begun
      → Stands l.peg window more l.peg.keys root (Answer l.given) l.self.frames l.self.log.stored l.self.events
      l.self.begun;
  less : (bytes : List ℕ) → left l.peg bytes (Answer l.given) l.self.frames l.self.begun
      ≤ left l.peg bytes (Answer l.fn.first) l.fn.self.frames l.fn.self.begun;
}

abbrev pub decreases-frames : goal.decreases-frames
decreases-frames l = left l.peg [] (Answer l.given) l.self.frames l.self.begun
