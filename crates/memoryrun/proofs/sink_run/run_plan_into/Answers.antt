-- The task and the end, together.
use Rattle.std.proofs.Common.{Some}
use Rattle.memoryrun.proofs.PlannedRunLemmas.{plan_of_sinks}
use Rattle.toolrun.specs.Plan.{does_of}
use Rattle.toolrun.specs.Status.{code_of}
use Rattle.toolrun.specs.Tasks.{task_does}
use Rattle.memoryrun.proofs.sink_run.run_plan_into.Goals as goal

pub returns : goal.returns
returns g c =
    plan_of_sinks (does_of (λ t. task_does g.L.Language.canonical g.L.Language.runs t c.args.settings.now)
    c.args.plan.now.task) c.args.input.now (Some c.new-reader.result.rest.now) (Some c.act-ending.new.reader.rest.now)
    _ _ _ _ _ _ _ _ _ c.act-ending.result (code_of c.conclude.result) c.new-reader.ensures.remaining
    c.requires.out_is_fresh c.act-ending.ensures c.conclude.ensures.kept c.conclude.ensures.stays
    c.conclude.ensures.reported
