use Rattle.std.proofs.Common.{sym, ap, ◌∙◌}
use Rattle.flatgrammar.proofs.CallOfLemmas.{some_same}
use Rattle.earley.proofs.DotTableLemmas.{calls_kept, calls_left}
use Rattle.earley.proofs.dot_table.keep_call.Goals as goal

pub returns-in_ok-push-in-Some : goal.returns-in_ok-push-in-Some
returns-in_ok-push-in-Some c steps is are = rw c.in_ok-push-in-Some.ensures.items
    (calls_kept steps c.args.target c.args.from c.args.step is c.args.calls.now.items are c.in-Some.called c.in-Some.is
    c.if-called-target.true)

pub returns-in_default : goal.returns-in_default
returns-in_default c steps is are = calls_left steps c.args.target c.args.from c.args.step is c.args.calls.now.items are
    (λ d d_is d_target. c.if-called-target.false
    (ap (λ v. v.target) (some_same (sym c.in-Some.is ∙ d_is)) ∙ d_target))

pub returns-in_default-2 : goal.returns-in_default-2
returns-in_default-2 c steps is are = calls_left steps c.args.target c.args.from c.args.step is c.args.calls.now.items
    are
    (λ d d_is d_target. let none = c.in_default.is in absurd (cc (none, d_is)))
