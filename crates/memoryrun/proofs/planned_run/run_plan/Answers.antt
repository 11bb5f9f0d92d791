-- The task and the end, together.
use Rattle.std.proofs.Common.{ap, ◌∙◌, Some, List, ℕ}
use Rattle.toolrun.specs.Plan.{does_of}
use Rattle.toolrun.specs.Status.{code_of}
use Rattle.toolrun.specs.Tasks.{task_does}
use Rattle.memoryrun.proofs.PlannedRunLemmas.{planned_run}
use Rattle.memoryrun.proofs.planned_run.run_plan.Goals as goal

pub returns : goal.returns
returns g c =
    planned_run (does_of (λ t. task_does g.L.Language.canonical g.L.Language.runs t c.args.settings.now)
    c.args.plan.now.task) c.args.input.now
    (Some c.new-reader.result.rest.now) (Some c.act-ending.new.reader.rest.now)
    (Some c.new-out.result.inner.items) (Some c.act-ending.new.out.inner.items)
    (Some c.conclude-status.new.out.inner.items)
    (Some c.new-err.result.inner.items) (Some c.conclude-status.new.err.inner.items)
    c.into_inner.result.items c.into_inner-2.result.items
    c.new-out.result.failed c.act-ending.new.out.failed c.conclude-status.new.out.failed
    c.conclude-status.new.err.failed
    c.act-ending.result (code_of c.conclude-status.result)
    c.new-reader.ensures.remaining
    (c.new-out.ensures.contents ∙ ap (λ (x : List ℕ). Some x) c.new.ensures.items)
    (c.new-err.ensures.contents ∙ ap (λ (x : List ℕ). Some x) c.new-2.ensures.items)
    c.new-out.ensures.failed c.into_inner.ensures c.into_inner-2.ensures
    c.act-ending.ensures c.conclude-status.ensures.kept c.conclude-status.ensures.stays
    c.conclude-status.ensures.reported
