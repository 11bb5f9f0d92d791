-- The task follows the notes, or an allocation failed in making the grammar ready.
use Rattle.std.proofs.Common.{refl}
use Rattle.toolrun.specs.Plan.{first_text}
use Rattle.toolrun.proofs.IsPlanLemmas.{plan_task, plan_unmade}
use Rattle.toolrun.proofs.plan.plan_task.Goals as goal

pub returns-in-Ok : goal.returns-in-Ok
returns-in-Ok g c = λ text notes is reported.
    plan_task c.follows.ensures text c.args.settings.now notes (first_text c.args.first) c.args.settings.now.mode
    c.args.rules c.args.judged c.in-Ok.task refl c.requires.mode is reported c.in-Ok.ensures

pub returns-in-Err : goal.returns-in-Err
returns-in-Err g c = λ text notes is reported.
    rw (c.plan_stop.ensures.first, c.plan_stop.ensures.task)
    (plan_unmade c.follows.ensures text c.args.settings.now notes c.args.rules c.args.judged is)
