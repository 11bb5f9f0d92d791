-- The runner stays, and the run is one with any settings that ask for it.
use Rattle.pegread.specs.PegViews.{rules_of}
use Rattle.capi.proofs.RunSettingsLemmas.{planned_by_same, runner_stays}
use Rattle.capi.proofs.runs.run_input.Goals as goal

pub returns-clause-same : goal.returns-clause-same
returns-clause-same c = runner_stays c.args.runner.now _ _ c.run_opened_into.ensures.same

pub returns-clause-runs : goal.returns-clause-runs
returns-clause-runs c =
    let runner = c.args.runner.now in
    let run = c.run_opened_into.ensures.runs in (
      run.0,
      run.1,
      (λ settings by. planned_by_same (rules_of runner.peg.rules) runner.peg.start _ settings by.limit
          by.style by.whole by.budget by.line_buffered by.explain run.2),
      run.3,
      run.4,
    )
