-- What the end of a run reports.
use Rattle.std.specs.Prelude.{ℕ, Bool, List, [], Result, Ok, Err}
use Rattle.ruletable.specs.declared.sink.WriteFault.{WriteFault}
use Rattle.toolrun.specs.Delivery.{Reports}
use Rattle.toolrun.specs.RunEnd.{ended_status, ended_text, plainly}
use Rattle.toolrun.specs.Status.{code_of}
use Rattle.toolrun.specs.Stop.{write_error}
use Rattle.toolrun.specs.declared.ending.Ending.{Ending}
use Rattle.toolrun.specs.declared.status.Status.{Status}
use Rattle.toolrun.specs.declared.status.Status.TheVariants.{Fault}
use Rattle.toolrun.specs.declared.stop.Stop.{Stop}

-- the first text that is reported
abbrev pub reported_of : Result Ending WriteFault → List ℕ
reported_of (Ok ending) = ended_text ending
reported_of (Err fault) = write_error

-- what is reported before a fault of the output: how the run ends, or nothing where the output failed before
abbrev pub text_of : Result Ending WriteFault → List ℕ
text_of (Ok ending) = ended_text ending
text_of (Err fault) = []

-- the status before anything is reported
abbrev pub ending_of : Result Ending WriteFault → Status
ending_of (Ok ending) = ended_status ending
ending_of (Err fault) = Fault

-- an ending is reported as stated; after a fault of the output nothing stands before `write error`
abbrev pub Concludes : Result Ending WriteFault → Bool → Bool → List ℕ → ℕ → Type 0
Concludes ending out_failed err_failed reported code = Reports (text_of ending) (code_of (ending_of ending)) out_failed
    err_failed reported code

-- so is a stop that is not explained
abbrev pub Finishes : Result Stop WriteFault → Bool → Bool → List ℕ → ℕ → Type 0
Finishes stop out_failed err_failed reported code = Concludes (plainly stop) out_failed err_failed reported code
