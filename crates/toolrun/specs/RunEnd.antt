-- What a run reports at its end: rejected lines, the message of the stop, and after it what explains it.
use Rattle.std.specs.Prelude.{ℕ, ◌==◌, List, [], ◌++◌, codes, decimal, if◌then◌else◌, Result, Ok, Err}
use Rattle.ruletable.specs.declared.sink.WriteFault.{WriteFault}
use Rattle.toolrun.specs.Stop.{message_of, not_explained, status_of}
use Rattle.toolrun.specs.declared.ending.Ending.{Ending}
use Rattle.toolrun.specs.declared.ending.Ending.TheVariants.{Plain, Explained, Unexplained}
use Rattle.toolrun.specs.declared.ending.ReportedRefusals.{ReportedRefusals}
use Rattle.toolrun.specs.declared.status.Status.{Status}
use Rattle.toolrun.specs.declared.stop.Stop.{Stop}

-- how many more lines were rejected, if some were
abbrev pub more_refused : ℕ → List ℕ
more_refused n = if n == 0 then [] else codes "more refused lines: " ++ decimal n ++ codes "\n"

-- the lines that explain the first rejected lines, and how many more there are
abbrev pub refusals_text : ReportedRefusals → List ℕ
refusals_text reported = reported.text.items ++ more_refused reported.more

-- Rejected lines come first. After the message stand the lines that explain it; where an allocation fails in these, one
-- line says so.
abbrev pub ended_text : Ending → List ℕ
ended_text (Plain stop) = message_of stop
ended_text (Explained reported stop why) = refusals_text reported ++ (message_of stop ++ why.items)
ended_text (Unexplained reported stop) = refusals_text reported ++ (message_of stop ++ not_explained)

-- the status is that of the stop, explained or not
abbrev pub ended_status : Ending → Status
ended_status (Plain stop) = status_of stop
ended_status (Explained reported stop why) = status_of stop
ended_status (Unexplained reported stop) = status_of stop

-- how it stops
abbrev pub stop_of : Ending → Stop
stop_of (Plain stop) = stop
stop_of (Explained reported stop why) = stop
stop_of (Unexplained reported stop) = stop

-- how a run ends that stopped so, where nothing explains it
abbrev pub plainly : Result Stop WriteFault → Result Ending WriteFault
plainly (Ok stop) = Ok (Plain stop)
plainly (Err fault) = Err fault
