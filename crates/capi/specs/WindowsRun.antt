-- What a call for many windows leaves.
use Rattle.std.specs.Prelude.{◌≡◌, ◌≢◌, ◌⊎◌, ℕ, List, [], ◌++◌, length}
use Rattle.capi.specs.Asking.{IsMeant, IsInvalid}
use Rattle.capi.specs.BufferRun.{Filled, IsLaid, IsUntouched}
use Rattle.capi.specs.FrontText.{StandsFirst}
use Rattle.capi.specs.WindowRuns.{HaveRun, WindowRun}
use Rattle.capi.specs.declared.asked.CSettings.{CSettings}
use Rattle.capi.specs.declared.result.CResult.{CResult}
use Rattle.capi.specs.declared.windows.CWindow.{CWindow}
use Rattle.memoryrun.specs.MemoryRun.{IsMemoryRun}
use Rattle.ruletable.specs.Writing.{IsPrefixOf}
use Rattle.toolrun.specs.Input.{Input}
use Rattle.toolrun.specs.Plan.{IsReportedAnd}
use Rattle.toolrun.specs.Reply.{Reply}
use Rattle.toolrun.specs.declared.settings.Settings.{Settings}
use Rattle.toolrun.specs.declared.stop.Stop.TheVariants.{NoMemory}

-- the results before and after
pub record Results : Type 0 where
  pub old : List CResult
  pub new : List CResult

-- The messages that stand once have all of a run's notes: they are the notes alone; or they go on into the messages of
-- a run that prints nothing.
abbrev pub StandsWhole : List ℕ → List ℕ → Reply → Type 0
StandsWhole first notes stated = (first ≡ notes) ⊎ (IsPrefixOf notes first × (stated.out ≡ []))

-- After the messages that stand once, the run of a window's bytes gives what is stated for them, as a run over memory.
-- Or an allocation failed before: no message stands once, and the run stops for that.
pub data IsRunAfter (States : Input → List ℕ → Reply → Type 0) (first input : List ℕ) (run : WindowRun) : Type
    0 where
  goes_on : (ran : IsMemoryRun States input run.out (first ++ run.err) run.code)
      → StandsWhole first ran.notes ran.stated → IsRunAfter States first input run
  stops_early : first ≡ [] → IsMemoryRun (IsReportedAnd [] NoMemory) input run.out run.err run.code
      → IsRunAfter States first input run

-- Each window was run by itself, with the settings that C asks for. The error buffer begins with the messages on the
-- grammar, its notes or its fault, once for all. The rest of what the runs wrote follows there, and stands in the other
-- buffer, one run after the other, as much as there is room for. Or C asks for no settings, or the results are not as
-- many as the windows, and nothing was done.
pub data IsWindowsRun {O : Type 0} (AreMeant : CSettings → O → Type 0)
    (States : Settings O → Input → List ℕ → Reply → Type 0) (asked : CSettings) (name input : List ℕ)
    (windows : List CWindow) (results : Results) (out err : Filled) (code : ℕ) : Type 0 where
  all_ran : (settings : Settings O) (first printed reported : List ℕ) → IsMeant AreMeant asked name settings
      → StandsFirst (States settings) first
      → HaveRun (IsRunAfter (States settings) first) input windows printed reported results.new
      → IsLaid printed out → IsLaid (first ++ reported) err → code ≡ 0
      → IsWindowsRun AreMeant States asked name input windows results out err code
  no_settings : IsInvalid asked name → results.new ≡ results.old → IsUntouched out → IsUntouched err
      → code ≡ 6 → IsWindowsRun AreMeant States asked name input windows results out err code
  uneven : length results.old ≢ length windows → results.new ≡ results.old → IsUntouched out → IsUntouched err
      → code ≡ 6 → IsWindowsRun AreMeant States asked name input windows results out err code
