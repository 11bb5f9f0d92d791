use Rattle.std.proofs.Common.{refl, sym, subst}
use Rattle.matchfailure.specs.FailureStates.{IsOwnRecorded}
use Rattle.matchfailure.specs.FailureTasks.{IsOutside}
use Rattle.matchfailure.specs.KeptFailures.{IsRecorded}
use Rattle.matchfailure.proofs.KeptFailuresLemmas.{failures_grow}
use Rattle.matchfailure.proofs.StoppedLemmas.{found_stops, none_stops, stops_once}
use Rattle.matchfailure.proofs.tasks.machine.note_stop.Goals as goal

pub returns-in_ok-add-in-Some-clause-failures : goal.returns-in_ok-add-in-Some-clause-failures
returns-in_ok-add-in-Some-clause-failures c = λ out failures.
    failures_grow c.args.peg.now c.args.window.now _ _ _ _ c.in_ok-add-in-Some.ensures (
      (subst (IsOutside c.args.peg.now c.args.window.now) c.in-Eval.is (out c.if-not-outside.false)) _ _ (refl, refl),
      found_stops _ _ _ _ _ c.node.ensures c.in-Some.ensures.some,
    ) failures

pub returns-in_ok-add-in-Some-clause-own : goal.returns-in_ok-add-in-Some-clause-own
returns-in_ok-add-in-Some-clause-own c = λ out.
    subst (IsOwnRecorded c.args.peg.now c.args.window.now c.add.new.self) (sym c.in-Eval.is)
    (λ f s. subst (IsRecorded c.add.new.self c.in-Eval.node c.in-Eval.position)
    (stops_once (found_stops _ _ _ _ _ c.node.ensures c.in-Some.ensures.some) s) c.in_ok-add-in-Some.ensures.recorded)

pub returns-in-None-clause-own : goal.returns-in-None-clause-own
returns-in-None-clause-own c = λ out.
    subst (IsOwnRecorded c.args.peg.now c.args.window.now c.args.kept.now) (sym c.in-Eval.is)
    (λ f s. absurd (none_stops _ _ _ _ _ c.node.ensures c.in-None.ensures.none f s))
