use Rattle.std.proofs.Common.{◌<◌, Some, sym, subst}
use Rattle.memo.specs.KeyLog.{row_of}
use Rattle.matchfailure.proofs.FailureStatesLemmas.{is_resumed, row_within, top_well}
use Rattle.matchfailure.proofs.tasks.machine.FailureMachine.resume.Goals as goal

pub leave-requires : goal.leave-requires
leave-requires c =
    let s = c.requires.stands in
    record {
      row = subst (λ v. row_of c.args.frame.task < v) (sym s.1.stored.rows)
          (row_within c.args.peg.now s.0 c.args.frame.task (top_well c.args.peg.now s.0 _ _ _ _ _ s.1));
      stores = c.if-frame.true;
    }

pub returns-then-frame : goal.returns-then-frame
returns-then-frame c = λ window s. c.leave.ensures c.args.peg.now window s

pub returns : goal.returns
returns c = λ window s.
    let r = is_resumed c.args.peg.now window _ _ _ _ _ s c.requires.sound c.if-frame.false in
    c.follow.ensures c.args.peg.now window (Some (record { node = r.node; position = r.position })) c.requires.sound
    (r.ready _ (c.go_on-step.ensures window (top_well c.args.peg.now window _ _ _ _ _ s) r.node r.position r.denied
    r.first r.finds))
