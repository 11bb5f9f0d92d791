use Rattle.matchfailure.proofs.ByteRunsLemmas.{run_ends, run_stored}
use Rattle.matchfailure.proofs.tasks.machine.FailureMachine.store_run.Goals as goal

pub returns-in_ok-put_run : goal.returns-in_ok-put_run
returns-in_ok-put_run c = λ g window task passed.
    run_stored g window _ _ _ task _ _ passed c.mark_of.result c.mark_of.ensures.0 _ c.in_ok-put_run.ensures.stored
    c.in_ok-put_run.ensures.rows

pub returns-else-is_key_node : goal.returns-else-is_key_node
returns-else-is_key_node c = λ g window task passed. run_ends g window _ _ _ task _ _ passed
