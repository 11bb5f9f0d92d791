use Rattle.matchfailure.specs.FailureStates.{Stands}
use Rattle.matchfailure.proofs.tasks.machine.FailureMachine.evaluate.Given as goal

abbrev pub invariant-loop-step : goal.invariant-loop-step
invariant-loop-step l = Stands l.peg l.window l.self.log l.self.frames l.self.kept l.next
