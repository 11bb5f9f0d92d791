-- What is left to do with a grammar when its notes are written.
use Rattle.std.specs.Prelude.{◌≡◌, ℕ, List, Option, Some, None, Result, Ok, Err}
use Rattle.toolrun.specs.Input.{Input}
use Rattle.toolrun.specs.Reply.{Reply, text_alone}
use Rattle.toolrun.specs.declared.plan.Task.{Task}
use Rattle.toolrun.specs.declared.plan.Task.TheVariants.{Prints, Runs}
use Rattle.toolrun.specs.declared.settings.Mode.{Mode}
use Rattle.toolrun.specs.declared.settings.Mode.TheVariants.{Run, Check, Print}
use Rattle.toolrun.specs.declared.settings.Settings.{Settings}
use Rattle.toolrun.specs.declared.status.Status.TheVariants as status
use Rattle.toolrun.specs.declared.stop.Stop.{Stop}
use Rattle.toolrun.specs.declared.stop.Stop.TheVariants.{Quiet}

-- what a task states for settings and an input
abbrev pub task_does : {G S O : Type 0} → (G → List ℕ) → (S → Settings O → Input → Reply → Type 0) → Task G S
    → Settings O → Input → Reply → Type 0
task_does canonical RunStates (Prints grammar) settings input reply = reply ≡ text_alone (canonical grammar)
task_does canonical RunStates (Runs sound) settings input reply = RunStates sound settings input reply

-- A grammar that is not rejected is run, or that was all. IsReady says what is ready to run.
abbrev pub IsTask : {G J S : Type 0} → (J → S → Type 0) → Mode → Option J → Result (Task G S) Stop → Type 0
IsTask IsReady mode None task = task ≡ Err (Quiet status.Refused)
IsTask {S = S} IsReady Run (Some judged) task = (sound : S) × IsReady judged sound × (task ≡ Ok (Runs sound))
IsTask IsReady Check (Some judged) task = task ≡ Err (Quiet status.Done)
IsTask IsReady Print (Some judged) task = task ≡ Err (Quiet status.Done)
