use Rattle.std.proofs.Common.{arith, subst}
use Rattle.rulelines.specs.StateTables.{IsCan}
use Rattle.rulelines.proofs.OverLemmas.{none_all, none_more}
use Rattle.rulelines.proofs.list.over.are_false.Goals as goal

pub loop-state-preserved : goal.loop-state-preserved
loop-state-preserved c =
    none_more c.args.table.now c.args.count c.loop-state.state
    (subst (λ v. IsCan c.args.table.now c.loop-state.state c.args.count v) c.if-can.false c.in-Some.ensures)
    c.loop-state.invariant

pub returns : goal.returns
returns c = λ yes.
    let over = c.loop-state-test.false in
    none_all c.args.table.now c.args.count c.loop-state.state (omega (arith, over)) c.loop-state.invariant
