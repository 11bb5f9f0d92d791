-- What a program does whose words are right.
use Rattle.std.specs.Prelude.{◌≡◌, ℕ, Bool, List, [], Option, Ok}
use Rattle.std.specs.Io.KnownBytes.{Appends, Keeps}
use Rattle.clap.specs.Words.{Row, kind_of}
use Rattle.clap.specs.declared.error.kind.ErrorKind.TheVariants.{OutOfMemory}
use Rattle.cli.specs.Asked.{Ask}
use Rattle.cli.specs.declared.reading.Unready.{Unready}
use Rattle.cli.specs.declared.reading.Unready.TheVariants as unready
use Rattle.cli.specs.declared.settings.Asked.{Asked}
use Rattle.toolrun.specs.Finish.{Finishes}
use Rattle.toolrun.specs.Input.{Input}
use Rattle.toolrun.specs.Plan.{stopped}
use Rattle.toolrun.specs.Reply.{Reply}
use Rattle.toolrun.specs.declared.settings.Settings.{Settings}
use Rattle.toolrun.specs.declared.stop.Stop.{Stop}
use Rattle.toolrun.specs.declared.stop.Stop.TheVariants.{NoMemory, Unreadable}

-- What is stated where the matches ask for settings: what the tool states for the text of a grammar with these
-- settings. No clause can say which text a file holds. Or the grammar cannot be read, or an allocation fails before
-- that.
-- Asks says what the matches ask for in the language alone.
pub data JobStates {O : Type 0} (Asks : List Row → O → Type 0)
    (States : List ℕ → Settings O → Input → List ℕ → Reply → Type 0) (rows : List Row)
    (input : Input) : List ℕ → Reply → Type 0 where
  runs : (grammar : List ℕ) (asked : Asked O) (notes : List ℕ) (reply : Reply) → Ask Asks rows asked
      → States grammar asked.settings input notes reply →
      JobStates Asks States rows input notes reply
  unreadable : JobStates Asks States rows input [] (stopped Unreadable)
  no_memory : JobStates Asks States rows input [] (stopped NoMemory)

-- how a run stops whose words are right, but that has no job
abbrev pub IsStopOf : Unready → Stop → Type 0
IsStopOf (unready.Words error) stop = (kind_of error ≡ OutOfMemory) × (stop ≡ NoMemory)
IsStopOf unready.Unreadable stop = stop ≡ Unreadable
IsStopOf unready.NoMemory stop = stop ≡ NoMemory

-- the output is as it was, and the error output reports the stop
abbrev pub ReportsOf : Stop → Option (List ℕ) → Option (List ℕ) → Bool → Option (List ℕ) → Option (List ℕ) → Bool → ℕ
    → Type 0
ReportsOf stop out_old out_new out_failed err_old err_new err_failed code =
    Keeps out_old out_new × ((reported : List ℕ) × Appends err_old err_new reported
    × Finishes (Ok stop) out_failed err_failed
    reported code)
