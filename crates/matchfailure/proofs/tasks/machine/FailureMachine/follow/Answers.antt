use Rattle.std.proofs.Common.{false, ◌∷◌, subst}
use Rattle.memo.specs.declared.task.MatchTask.TheVariants.{Eval}
use Rattle.matchfailure.specs.FailureStates.{IsReady, Stands, side_under}
use Rattle.matchfailure.specs.declared.tasks.machine.NextTask.TheVariants.{Ask}
use Rattle.matchfailure.proofs.FailureStatesLemmas.{ready_gives, ready_becomes, ready_asks}
use Rattle.matchfailure.proofs.tasks.machine.FailureMachine.follow.Goals as goal

pub returns-in-Gives : goal.returns-in-Gives
returns-in-Gives c = λ g window asked sound ready.
    ready_gives g window _ _ _ asked _ _ _
    (subst (IsReady g window c.args.self.now.log c.args.self.now.frames c.args.self.now.kept asked c.args.task
    c.args.outside) c.in-Gives.is ready)

pub returns-in-Becomes : goal.returns-in-Becomes
returns-in-Becomes c = λ g window asked sound ready.
    ready_becomes g window _ _ _ asked _ _ _
    (subst (IsReady g window c.args.self.now.log c.args.self.now.frames c.args.self.now.kept asked c.args.task
    c.args.outside) c.in-Becomes.is ready)

pub returns-then-denied : goal.returns-then-denied
returns-then-denied c = λ g window asked sound ready.
    rw c.in_ok-push-in-Asks.ensures
    (subst (λ v. Stands g window c.args.self.now.log
    (record { task = c.args.task; outside = c.args.outside; stores = false; cost = 0 } ∷ c.args.self.now.frames)
    c.args.self.now.kept (Ask (Eval c.in-Asks.node c.in-Asks.position) (side_under v c.args.outside)))
    c.if-denied.true (ready_asks g window _ _ _ sound asked _ _ _ _ _
    (subst (IsReady g window c.args.self.now.log c.args.self.now.frames c.args.self.now.kept asked c.args.task
    c.args.outside) c.in-Asks.is ready)))

pub returns-else-denied : goal.returns-else-denied
returns-else-denied c = λ g window asked sound ready.
    rw c.in_ok-push-in-Asks.ensures
    (subst (λ v. Stands g window c.args.self.now.log
    (record { task = c.args.task; outside = c.args.outside; stores = false; cost = 0 } ∷ c.args.self.now.frames)
    c.args.self.now.kept (Ask (Eval c.in-Asks.node c.in-Asks.position) (side_under v c.args.outside)))
    c.if-denied.false (ready_asks g window _ _ _ sound asked _ _ _ _ _
    (subst (IsReady g window c.args.self.now.log c.args.self.now.frames c.args.self.now.kept asked c.args.task
    c.args.outside) c.in-Asks.is ready)))
