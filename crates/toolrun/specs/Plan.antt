-- What is to be done for a grammar's text.
use Rattle.std.specs.Prelude.{◌≡◌, ℕ, List, [], ◌++◌, map, Result, Ok, Err}
use Rattle.ruletable.specs.Faults.{fault_text}
use Rattle.ruletable.specs.Notes.{said_of}
use Rattle.toolrun.specs.Input.{Input}
use Rattle.toolrun.specs.NotesText.{notes_text}
use Rattle.toolrun.specs.Reply.{Reply}
use Rattle.toolrun.specs.Status.{code_of}
use Rattle.toolrun.specs.Stop.{message_of, status_of}
use Rattle.toolrun.specs.declared.plan.First.{First}
use Rattle.toolrun.specs.declared.plan.First.TheVariants.{Notes, Reported, Fault}
use Rattle.toolrun.specs.declared.status.Status.{Status}
use Rattle.toolrun.specs.declared.status.Status.TheVariants.{Done}
use Rattle.toolrun.specs.declared.stop.Stop.{Stop}

-- a run that stops at once
abbrev pub stopped : Stop → Reply
stopped stop = record { out = []; err = message_of stop; status = code_of (status_of stop); taken = 0 }

-- what a task states, or a run that stops at once
abbrev pub does_of : {T : Type 0} → (T → Input → Reply → Type 0) → Result T Stop → Input → Reply → Type 0
does_of Does (Ok task) input reply = Does task input reply
does_of Does (Err stop) input reply = reply ≡ stopped stop

-- this is written on the error output, and then the run stops so
abbrev pub IsReportedAnd : List ℕ → Stop → Input → List ℕ → Reply → Type 0
IsReportedAnd reported stop input notes reply = (notes ≡ reported) × (reply ≡ stopped stop)

-- the status that a run has met before it performs this: that of a stop
abbrev pub met_before : {T : Type 0} → Result T Stop → Status
met_before (Ok task) = Done
met_before (Err stop) = status_of stop

-- the text of what is reported before anything is read
abbrev pub first_text : First → List ℕ
first_text (Notes notes) = notes_text (map said_of notes.items)
first_text (Reported reported) = reported.items
first_text (Fault fault why) = fault_text fault ++ why.items

-- the reply that reports this text first
abbrev pub reported_after : List ℕ → Reply → Reply
reported_after first reply = record {
  out = reply.out;
  err = first ++ reply.err;
  status = reply.status;
  taken = reply.taken;
}

-- What is stated where this text is reported first: it is the notes, or the reply reports it, which writes nothing.
pub data Follows (States : Input → List ℕ → Reply → Type 0) (input : Input) (first : List ℕ) (reply : Reply) : Type
    0 where
  after_notes : States input first reply → Follows States input first reply
  in_reply : reply.out ≡ [] → States input [] (reported_after first reply) → Follows States input first reply

-- After these notes what is done is what is stated, and for each input something is.
pub record IsPlan (States : Input → List ℕ → Reply → Type 0) (notes : List ℕ) (Does : Input → Reply → Type 0) : Type
    0 where
  pub stated : (input : Input) (reply : Reply) → Does input reply → States input notes reply
  pub some : (input : Input) → (reply : Reply) × Does input reply

-- What is stated after this text: what a task does; or the run stops at once, and the text is notes or stands in the
-- reply.
abbrev pub IsPlanned : {T : Type 0} → (Input → List ℕ → Reply → Type 0) → List ℕ → (T → Input → Reply → Type 0)
    → Result T Stop → Type 0
IsPlanned States first Does (Ok task) = IsPlan States first (Does task)
IsPlanned States first Does (Err stop) = (input : Input) → Follows States input first (stopped stop)
