-- The fault is reported alone.
use Rattle.std.proofs.Common.{◌≡◌, true, false, rules}
use Rattle.ruletable.specs.declared.fault.ReadFault.TheVariants.{Memory}
use Rattle.toolrun.proofs.IsPlanLemmas.{plan_unread, plan_without_memory}
use Rattle.toolrun.proofs.plan.plan_fault.Goals as goal

pub returns-then-eq : goal.returns-then-eq
returns-then-eq g c =
    let is : c.args.fault ≡ Memory = search rules in
    rw (c.plan_stop.ensures.first, c.plan_stop.ensures.task)
    (plan_without_memory c.follows.ensures c.args.text.now c.args.settings.now c.args.fault is c.requires)

pub returns-then-not-settings : goal.returns-then-not-settings
returns-then-not-settings g c =
    let plain : c.args.settings.now.explain ≡ false = search rules in
    rw (c.plan_stop-then-not-settings.ensures.first, c.plan_stop-then-not-settings.ensures.task)
    (plan_unread c.follows.ensures c.args.text.now c.args.settings.now plain c.args.fault c.requires)

pub returns : goal.returns
returns g c =
    let asked : c.args.settings.now.explain ≡ true = search rules in
    c.plan_explained.ensures c.args.settings.now asked
