-- What a run has written when it ends, before its messages.
use Rattle.std.specs.Prelude.{◌≡◌, ◌≢◌, ℕ, ◌≤◌, List, length, Option, Result, Ok, Err, IfOk, IfSome, MatchResult}
use Rattle.std.specs.Io.KnownBytes.{Appends, Consumes}
use Rattle.ruletable.specs.Writing.{AppendsPart, Flags, IsProperPrefix}
use Rattle.ruletable.specs.declared.sink.WriteFault.{WriteFault}
use Rattle.toolrun.specs.RunEnd.{ended_status, ended_text, plainly, stop_of}
use Rattle.toolrun.specs.Input.{Input, input_from}
use Rattle.toolrun.specs.Reply.{Reply}
use Rattle.toolrun.specs.Status.{code_of}
use Rattle.toolrun.specs.Stream.{Stream}
use Rattle.toolrun.specs.declared.ending.Ending.{Ending}
use Rattle.toolrun.specs.declared.status.Status.TheVariants.{Done}
use Rattle.toolrun.specs.declared.stop.Stop.{Stop}
use Rattle.toolrun.specs.declared.stop.Stop.TheVariants.{NoMemory, Quiet}

-- the text was written, and the run is done; or a proper prefix of it was written where the writer failed
abbrev pub Prints : Option (List ℕ) → Option (List ℕ) → List ℕ → Result Stop WriteFault → Type 0
Prints old new text r = MatchResult r (λ stop. (stop ≡ Quiet Done) × Appends old new text)
    (λ _. AppendsPart old new text)

-- what is stated has been written, or a proper prefix of it where the writer failed
abbrev pub IsWritten : Result Ending WriteFault → Reply → List ℕ → Type 0
IsWritten (Ok ending) stated wrote = (wrote ≡ stated.out) × (stated.err ≡ ended_text ending)
    × (stated.status ≡ code_of (ended_status ending))
IsWritten (Err fault) stated wrote = IsProperPrefix wrote stated.out

-- What a run that ended so states, and how much of it has been written and taken.
pub record EndedAs (States : Reply → Type 0) (taken : List ℕ) (ending : Result Ending WriteFault)
    (wrote : List ℕ) : Type 0 where
  pub stated : Reply
  pub states : States stated
  pub written : IsWritten ending stated wrote
  pub within : length taken ≤ stated.taken
  pub exact : IfOk ending (λ e. stop_of e ≢ NoMemory → length taken ≡ stated.taken)

-- Where the reader states its bytes, the run ended as one that states this.
pub record Fulfils (Does : Input → Reply → Type 0) (reader out : Stream) (ending : Result Ending WriteFault) : Type
    0 where
  pub stopped : IfSome reader.old (λ given. (taken wrote : List ℕ) × Consumes reader.old reader.new taken
      × Appends out.old out.new wrote ×
      EndedAs (Does (input_from given taken reader.failed)) taken ending wrote)
  pub flag : Flags out.was out.failed ending

-- so it did where it stopped and nothing explains that
abbrev pub Performs : (Input → Reply → Type 0) → Stream → Stream → Result Stop WriteFault → Type 0
Performs Does reader out stop = Fulfils Does reader out (plainly stop)
