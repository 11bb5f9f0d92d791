use Rattle.std.proofs.Common.{arith, subst}
use Rattle.std.specs.Prelude.{IfSome}
use Rattle.rulelines.specs.StateTables.{IsStep}
use Rattle.rulelines.proofs.SomeLineLemmas.{all_drawn, none_drawn, one_drawn}
use Rattle.rulelines.proofs.list.random.draw_word.Goals as goal

pub loop-done-init : goal.loop-done-init
loop-done-init c = λ s is. none_drawn c.args.table.now s c.args.table.now.start _ c.new-word.ensures.items is

pub loop-done-preserved : goal.loop-done-preserved
loop-done-preserved c = λ s is.
    one_drawn c.args.table.now s c.loop-done.done c.loop-done.at c.in-Some.symbol c.in-Some-step.next
    c.loop-done.word.items c.push.new.self.items (c.loop-done.invariant s is)
    (subst (λ v. IfSome v (IsStep c.args.table.now c.loop-done.at c.in-Some.symbol)) c.in-Some-step.is c.step.ensures)
    c.in_ok-push.ensures.items

pub returns : goal.returns
returns c = λ s is.
    all_drawn c.args.table.now s c.loop-done.done c.loop-done.at c.args.count c.loop-done.word.items
    c.has_ended.result (c.loop-done.invariant s is)
    (let over = c.loop-done-test.false in let most = c.loop-done.auto.done-end in omega (arith, over, most))
    c.has_ended.ensures c.if-not-has_ended.false
