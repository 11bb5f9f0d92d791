use Rattle.std.proofs.Common.{subst}
use Rattle.memo.specs.declared.task.MatchTask.TheVariants.{Eval}
use Rattle.packrat.specs.Onward.{IsWell}
use Rattle.packrat.proofs.OnwardLemmas.{row_within}
use Rattle.packrat.proofs.onward.go_on.Goals as goal

pub go_on_node-requires-clause-there : goal.go_on_node-requires-clause-there
go_on_node-requires-clause-there c =
    let w = c.requires.well in
    row_within c.args.peg.now w.0 (Eval c.in-Eval.node c.in-Eval.position)
    (subst (IsWell c.args.peg.now w.0) c.in-Eval.is w.1)

pub go_on_tail-requires-clause-well : goal.go_on_tail-requires-clause-well
go_on_tail-requires-clause-well c =
    let w = c.requires.well in
    (w.0, subst (IsWell c.args.peg.now w.0) c.in-Tail.is w.1)

pub returns-in-Eval : goal.returns-in-Eval
returns-in-Eval c = rw c.in-Eval.is c.go_on_node.ensures

pub returns-in-Tail : goal.returns-in-Tail
returns-in-Tail c = rw c.in-Tail.is c.go_on_tail.ensures
