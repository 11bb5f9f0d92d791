use Rattle.matchfailure.proofs.FailureStatesLemmas.{resumes_stored, resumes_unstored}
use Rattle.matchfailure.proofs.tasks.machine.FailureMachine.leave.Goals as goal

pub returns-then-self-le-FEW_TASKS : goal.returns-then-self-le-FEW_TASKS
returns-then-self-le-FEW_TASKS c = λ g window s. resumes_unstored g window _ _ _ _ _ s c.requires.stores

pub returns : goal.returns
returns c = λ g window s.
    resumes_stored g window _ _ _ _ _ s c.requires.stores c.mark_of.result c.mark_of.ensures.0 _
    c.in_ok-put.ensures.stored c.in_ok-put.ensures.rows
