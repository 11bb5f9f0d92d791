use Rattle.std.proofs.Common.{[], ◌∷◌, ◌∙◌, ap, subst}
use Rattle.matchfailure.specs.FailureStates.{Stands}
use Rattle.matchfailure.proofs.FailureStatesLemmas.{stands_first, stands_last}
use Rattle.matchfailure.proofs.tasks.machine.FailureMachine.evaluate.Goals as goal
use Rattle.matchfailure.proofs.tasks.machine.FailureMachine.evaluate.Goals.{in-Ask+in_ok-next-in-Ask}
use Rattle.matchfailure.proofs.tasks.machine.FailureMachine.evaluate.Goals.{in-Answer+in-Some+in_ok-next-in-Some}

pub loop-step-init : goal.loop-step-init
loop-step-init c =
    stands_first c.args.peg.now c.args.window.now c.args.root c.requires.root c.requires.sound _ _
    (c.in_ok-begin_unit.ensures.rows ∙ ap (λ v. record { stored = []; rows = v }) c.nodes.ensures.count)
    c.requires.position c.requires.visits _ c.requires.frames

pub returns-in-None-clause-found : goal.returns-in-None-clause-found
returns-in-None-clause-found c =
    let bare = subst (λ v. Stands c.args.peg.now c.args.window.now c.loop-step.self.log v c.loop-step.self.kept
    c.loop-step.next) c.in-None.ensures.none c.loop-step.invariant in
    (stands_last c.args.peg.now c.args.window.now c.args.root c.requires.root _ _ _ (subst (Stands c.args.peg.now
    c.args.window.now c.loop-step.self.log [] c.loop-step.self.kept) c.in-Answer.is bare)).0

pub returns-in-None-clause-covered : goal.returns-in-None-clause-covered
returns-in-None-clause-covered c =
    let bare = subst (λ v. Stands c.args.peg.now c.args.window.now c.loop-step.self.log v c.loop-step.self.kept
    c.loop-step.next) c.in-None.ensures.none c.loop-step.invariant in
    (stands_last c.args.peg.now c.args.window.now c.args.root c.requires.root _ _ _ (subst (Stands c.args.peg.now
    c.args.window.now c.loop-step.self.log [] c.loop-step.self.kept) c.in-Answer.is bare)).1

pub loop-step-preserved : goal.loop-step-preserved
loop-step-preserved c = elim c.match-next.branch [
  | in-Ask+in_ok-next-in-Ask w ↦ rw (w.self-is, w.next-is) w.in_ok-next-in-Ask.ensures
  | in-Answer+in-Some+in_ok-next-in-Some w ↦
      let popped = subst (λ v. Stands c.args.peg.now c.args.window.now c.loop-step.self.log v c.loop-step.self.kept
      c.loop-step.next) w.in-Some.ensures.some c.loop-step.invariant in
      rw (w.self-is, w.next-is) (w.in_ok-next-in-Some.ensures c.args.window.now
      (subst (Stands c.args.peg.now c.args.window.now c.loop-step.self.log (w.in-Some.frame ∷ w.pop.new.self)
      c.loop-step.self.kept) w.in-Answer.is popped))
]
