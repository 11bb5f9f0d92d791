-- What the runs of the windows of an input leave. Ran says which run the bytes of a window have.
use Rattle.std.specs.Prelude.{◌≡◌, ◌<◌, ◌≤◌, ◌+◌, ℕ, List, [], ◌∷◌, ◌++◌, length, map, take, drop}
use Rattle.std.specs.List.{flat_map}
use Rattle.capi.specs.declared.result.CResult.{CResult}
use Rattle.capi.specs.declared.windows.CWindow.{CWindow}
use Rattle.memoryrun.specs.PlannedRun.{IsPlannedRun}
use Rattle.toolrun.specs.Input.{Input}
use Rattle.toolrun.specs.Reply.{Reply}

-- what the run of a window wrote, and its status
pub record WindowRun : Type 0 where
  pub out : List ℕ
  pub err : List ℕ
  pub code : ℕ

-- the bytes of a window
abbrev pub window_bytes : List ℕ → CWindow → List ℕ
window_bytes input window = take window.len (drop window.at input)

-- a run as C has it
abbrev pub result_of : WindowRun → CResult
result_of run = record { out_len = length run.out; err_len = length run.err; status = run.code }

-- the run of these bytes gives what the plan states after its notes
abbrev pub planned : (Input → Reply → Type 0) → List ℕ → WindowRun → Type 0
planned Does bytes run = IsPlannedRun Does bytes run.out run.err run.code

-- A window has a run of its own on its bytes; or it does not lie in the input, and has none.
pub data IsWindowRun (Ran : List ℕ → WindowRun → Type 0) (input : List ℕ) (window : CWindow) (run : WindowRun) : Type
    0 where
  ran : window.at + window.len ≤ length input
      → Ran (window_bytes input window) run → IsWindowRun Ran input window run
  outside : length input < window.at + window.len → run ≡ record { out = []; err = []; code = 6 }
      → IsWindowRun Ran input window run

-- The windows in order, each with what it has.
pub data AreWindowRuns (Ran : List ℕ → WindowRun → Type 0) (input : List ℕ) : List CWindow → List WindowRun → Type
    0 where
  none : AreWindowRuns Ran input [] []
  more : (windows : List CWindow) (runs : List WindowRun) (window : CWindow) (run : WindowRun)
      → AreWindowRuns Ran input windows runs → IsWindowRun Ran input window run
      → AreWindowRuns Ran input (windows ++ window ∷ []) (runs ++ run ∷ [])

-- Both texts are those of runs of the windows, one after the other, and each result has a run's lengths and status.
pub record HaveRun (Ran : List ℕ → WindowRun → Type 0) (input : List ℕ) (windows : List CWindow) (out err : List ℕ)
    (results : List CResult) : Type 0 where
  pub runs : List WindowRun
  pub are_runs : AreWindowRuns Ran input windows runs
  pub out_is : out ≡ flat_map (λ (run : WindowRun). run.out) runs
  pub err_is : err ≡ flat_map (λ (run : WindowRun). run.err) runs
  pub results_are : results ≡ map result_of runs
