use Rattle.std.proofs.Common.{None}
use Rattle.matchfailure.proofs.ByteRunsLemmas.{passes_run}
use Rattle.matchfailure.proofs.FailureStatesLemmas.{ready_begins}
use Rattle.matchfailure.proofs.tasks.machine.FailureMachine.begin.Goals as goal

pub returns-in_ok-note_stop-in-Some : goal.returns-in_ok-note_stop-in-Some
returns-in_ok-note_stop-in-Some c =
    c.store_run.ensures c.args.peg.now c.args.window.now c.args.task
    (passes_run c.args.peg.now c.args.window.now _ _ _ c.args.task c.args.outside _ _ c.requires.sound
    c.in-Some.ensures c.requires.stands c.in_ok-note_stop-in-Some.ensures.stays c.in_ok-note_stop-in-Some.ensures.own
    c.in_ok-note_stop-in-Some.ensures.failures)

pub returns-in_ok-note_stop-in-None : goal.returns-in_ok-note_stop-in-None
returns-in_ok-note_stop-in-None c =
    let s = c.in_ok-enter-in-None.ensures.entered c.args.window.now c.requires.stands in
    c.follow.ensures c.args.peg.now c.args.window.now None c.requires.sound
    (ready_begins c.args.peg.now c.args.window.now _ _ _ _ _ _ _ s c.in_ok-note_stop-in-None.ensures.stays
    c.in_ok-note_stop-in-None.ensures.own c.in_ok-note_stop-in-None.ensures.failures c.begin_task.ensures)
