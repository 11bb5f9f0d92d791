-- What a run leaves in the buffers of C.
use Rattle.std.specs.Prelude.{◌≡◌, ℕ, List}
use Rattle.capi.specs.Asking.{IsMeant, IsInvalid}
use Rattle.capi.specs.declared.asked.CSettings.{CSettings}
pub use Rattle.memoryrun.specs.Filled.{laid, Filled, IsLaid, IsUntouched}
use Rattle.memoryrun.specs.MemoryRun.{IsMemoryRun}
use Rattle.toolrun.specs.Input.{Input}
use Rattle.toolrun.specs.Reply.{Reply}
use Rattle.toolrun.specs.declared.settings.Settings.{Settings}

-- A run was made with the settings that C asks for, and as much of both outputs as there is room for was laid into the
-- buffers; or C asks for no settings, and nothing was done.
pub data IsBufferRun {O : Type 0} (AreMeant : CSettings → O → Type 0)
    (States : Settings O → Input → List ℕ → Reply → Type 0) (asked : CSettings) (name input : List ℕ)
    (out err : Filled) (code : ℕ) : Type 0 where
  ran : (settings : Settings O) (printed reported : List ℕ) → IsMeant AreMeant asked name settings
      → IsMemoryRun (States settings) input printed reported code
      → IsLaid printed out → IsLaid reported err → IsBufferRun AreMeant States asked name input out err code
  invalid : IsInvalid asked name → IsUntouched out → IsUntouched err → code ≡ 6
      → IsBufferRun AreMeant States asked name input out err code
