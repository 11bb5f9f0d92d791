use Rattle.packrat.specs.MatchTasks.{Kids, is_key}
use Rattle.packrat.specs.View.{weight}
use Rattle.memo.specs.declared.task.MatchTask.{MatchTask}
use Rattle.memo.specs.declared.task.MatchTask.TheVariants.{Eval}
use Rattle.packrat.specs.TaskSteps.{NextOf}
use Rattle.packrat.proofs.MachineLemmas.{run_of_steps}
use Rattle.packrat.proofs.NextOfLemmas.{is_next}
use Rattle.packrat.proofs.RunStepsLemmas.{steps_of_run}
use Rattle.packrat.proofs.laws.steps_run.Goals as goal

pub returns-clause-run : goal.returns-clause-run
returns-clause-run c = λ rules nodes bodies x more root start marks tails stored begun steps.
    run_of_steps MatchTask (Kids rules nodes bodies x) (NextOf rules nodes bodies x) (is_key marks tails) weight
    (Eval root 0) stored begun steps

pub returns-clause-reach : goal.returns-clause-reach
returns-clause-reach c = λ rules start nodes bodies ranks x more sound root is marks tails are stored count run.
    steps_of_run MatchTask (Kids rules nodes bodies x) (NextOf rules nodes bodies x) (is_key marks tails) weight
    (is_next rules start nodes bodies ranks x more sound root is marks tails are).all (Eval root 0) stored count run
