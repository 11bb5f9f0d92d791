-- What a call that runs an open grammar leaves.
use Rattle.std.specs.Prelude.{◌≡◌, ℕ, List, Option, Some, None}
use Rattle.capi.specs.BufferRun.{Filled, IsLaid, IsUntouched}
use Rattle.capi.specs.GrammarOpenings.{RunsBy}
use Rattle.capi.specs.declared.runner.Runner.{Runner}
use Rattle.memoryrun.specs.PlannedRun.{IsPlannedRun}
use Rattle.pegread.specs.PegViews.{rules_of}
use Rattle.pegrun.specs.PegReply.{RunStates}
use Rattle.pegrun.specs.PegSettings.{PegSettings}

-- Both outputs and the status are those of a run of the grammar on the input, after the messages on the grammar, with
-- any settings that ask for such a run.
abbrev pub HasRunOn : Runner → List ℕ → List ℕ → List ℕ → ℕ → Type 0
HasRunOn runner input printed reported code = (settings : PegSettings) → RunsBy runner settings
    → IsPlannedRun (RunStates (rules_of runner.peg.rules) runner.peg.start settings) input printed reported code

-- The open grammar was run on the input, and as much of both outputs as there is room for was laid into the buffers; or
-- no grammar is open, and nothing was done.
pub data IsRunCall (input : List ℕ) (out err : Filled) (code : ℕ) : Option Runner → Type 0 where
  runs : (runner : Runner) (printed reported : List ℕ) → HasRunOn runner input printed reported code
      → IsLaid printed out
      → IsLaid reported err → IsRunCall input out err code (Some runner)
  not_open : IsUntouched out → IsUntouched err → code ≡ 6 → IsRunCall input out err code None
