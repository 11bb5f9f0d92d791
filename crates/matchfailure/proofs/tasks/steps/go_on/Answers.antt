use Rattle.std.proofs.Common.{subst}
use Rattle.matchfailure.specs.FailureTasks.{IsFirst}
use Rattle.matchfailure.proofs.tasks.steps.go_on.Goals as goal

pub go_on_tail-requires-clause-asks : goal.go_on_tail-requires-clause-asks
go_on_tail-requires-clause-asks c =
    let asks = c.requires.asks in
    (asks.0, asks.1, asks.2, subst (λ v. IsFirst c.args.peg.now v asks.0 asks.1 asks.2) c.in-Tail.is asks.3)

pub returns-in-Eval : goal.returns-in-Eval
returns-in-Eval c = rw c.in-Eval.is c.go_on_node.ensures

pub returns-in-Tail : goal.returns-in-Tail
returns-in-Tail c = rw c.in-Tail.is c.go_on_tail.ensures
