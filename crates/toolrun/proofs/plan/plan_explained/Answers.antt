-- The fault is reported, and what explains it, or that an allocation failed.
use Rattle.toolrun.proofs.IsPlanLemmas.{plan_explained, plan_unexplained}
use Rattle.toolrun.proofs.plan.plan_explained.Goals as goal

pub returns-in-Ok : goal.returns-in-Ok
returns-in-Ok g c = λ settings asked.
    plan_explained c.follows.ensures c.args.text.now settings asked c.args.fault
    c.in-Ok.why.items c.requires.fault c.requires.other c.in-Ok.ensures

pub returns-in-Err : goal.returns-in-Err
returns-in-Err g c = λ settings asked. rw c.new.ensures.items
    (plan_unexplained c.follows.ensures c.args.text.now settings asked c.args.fault
    c.requires.fault c.requires.other)
