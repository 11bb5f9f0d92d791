-- The run and its end, together.
use Rattle.std.proofs.Common.{ap, ◌∙◌, Some, List, ℕ}
use Rattle.pegread.specs.PegViews.{rules_of}
use Rattle.pegrun.specs.PegReply.{RunStates}
use Rattle.toolrun.specs.Status.{code_of}
use Rattle.memoryrun.proofs.PlannedRunLemmas.{planned_run}
use Rattle.memoryrun.proofs.opened_run.run_opened.Goals as goal

pub returns-clause-runs : goal.returns-clause-runs
returns-clause-runs c =
    planned_run (RunStates (rules_of c.args.runner.now.rules) c.args.runner.now.start c.args.settings.now)
    c.args.input.now
    (Some c.new-reader.result.rest.now) (Some c.run-ending.new.reader.rest.now)
    (Some c.new-out.result.inner.items) (Some c.run-ending.new.out.inner.items)
    (Some c.conclude-status.new.out.inner.items)
    (Some c.new-err.result.inner.items) (Some c.conclude-status.new.err.inner.items)
    c.into_inner.result.items c.into_inner-2.result.items
    c.new-out.result.failed c.run-ending.new.out.failed c.conclude-status.new.out.failed
    c.conclude-status.new.err.failed
    c.run-ending.result (code_of c.conclude-status.result)
    c.new-reader.ensures.remaining
    (c.new-out.ensures.contents ∙ ap (λ (x : List ℕ). Some x) c.new.ensures.items)
    (c.new-err.ensures.contents ∙ ap (λ (x : List ℕ). Some x) c.new-2.ensures.items)
    c.new-out.ensures.failed c.into_inner.ensures c.into_inner-2.ensures
    c.run-ending.ensures.runs c.conclude-status.ensures.kept c.conclude-status.ensures.stays
    c.conclude-status.ensures.reported
