use Rattle.matchfailure.proofs.FailureStatesLemmas.{enters_pushed}
use Rattle.matchfailure.proofs.tasks.machine.FailureMachine.enter.Goals as goal

pub returns-in_ok-push-clause-entered : goal.returns-in_ok-push-clause-entered
returns-in_ok-push-clause-entered c = λ window s.
    rw c.in_ok-push.ensures (enters_pushed c.args.peg.now window _ _ _ _ _ _ s)
