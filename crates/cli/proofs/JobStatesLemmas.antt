-- What is stated for a program whose words are right, and for one whose words are not.
-- Serves: tool_main, end_unparsed, end_unready; abnfd_main of abnfd, abnfg_main of abnfg, abnfx_main of abnfx
use Rattle.std.proofs.Common.{◌≡◌, ℕ, Bool, false, Option, Some, List, [], ◌∷◌, refl, inl, inr}
use Rattle.clap.specs.Words.{HasKind, IsAmong, Kinds, Row, kind_of}
use Rattle.clap.specs.declared.error.Error.{Error}
use Rattle.clap.specs.declared.error.kind.ErrorKind.{ErrorKind}
use Rattle.clap.specs.declared.error.kind.ErrorKind.TheVariants.{OutOfMemory}
use Rattle.cli.specs.Asked.{Ask}
use Rattle.cli.specs.Jobs.{IsStopOf, JobStates, ReportsOf, no_memory, runs, unreadable}
use Rattle.cli.specs.Parsing.{IsNoHelp, IsTextAlone, IsUnready, WordsState, has_no_room, says_fault, shows_help}
use Rattle.cli.specs.declared.reading.Unready.{Unready}
use Rattle.cli.specs.declared.reading.Unready.TheVariants as unready
use Rattle.cli.specs.declared.settings.Asked.{Asked}
use Rattle.ruletable.proofs.AppendsLemmas.{Appends-same}
use Rattle.toolrun.specs.Input.{Input}
use Rattle.toolrun.specs.Plan.{IsReportedAnd, stopped}
use Rattle.toolrun.specs.Reply.{Reply}
use Rattle.toolrun.specs.Right.{RunIsRight}
use Rattle.toolrun.specs.Stream.{Stream, no_input}
use Rattle.toolrun.specs.declared.settings.Settings.{Settings}
use Rattle.toolrun.specs.declared.status.Status.TheVariants.{Refused}
use Rattle.toolrun.specs.declared.stop.Stop.{Stop}
use Rattle.toolrun.specs.declared.stop.Stop.TheVariants.{NoMemory, Quiet, Unreadable}
use Rattle.toolrun.proofs.IsRightLemmas.{comes_as, reported_stops}

-- a stop that is stated
pub stop_comes : (States : Input → List ℕ → Reply → Type 0) (stop : Stop)
    → ((input : Input) → States input [] (stopped stop)) → (r0 : Option (List ℕ)) (r_was r_failed : Bool)
    (out err : Stream) (code : ℕ) → ReportsOf stop out.old out.new out.failed err.old err.new err.failed code →
    RunIsRight States (record { old = r0; new = r0; was = r_was; failed = r_failed }) out err code
stop_comes States stop stated r0 r_was r_failed out err code reports =
    comes_as (IsReportedAnd [] stop) States (λ input notes reply is. rw (is.0, is.1) (stated input))
    (record { old = r0; new = r0; was = r_was; failed = r_failed }) out err code
    (reported_stops [] stop r0 r_was r_failed out err err.old code reports.0 (Appends-same err.old) reports.1)

-- the end of a program with these words: where nothing is wrong with them, an allocation failed
pub unparsed_comes : (States : Input → List ℕ → Reply → Type 0) → ((input : Input) → States input [] (stopped NoMemory))
    → (out err : Stream) (code : ℕ) (kinds : Kinds) (error : Error) → HasKind kinds error
    → ((stop : Stop) → IsStopOf (unready.Words error) stop →
    ReportsOf stop out.old out.new out.failed err.old err.new err.failed code)
    → kinds ≡ [] → RunIsRight States no_input out err code
unparsed_comes States no_room out err code kinds error (inl memory) reports none =
    stop_comes States NoMemory no_room (Some []) false false out err code (reports NoMemory (memory, refl))
unparsed_comes States no_room out err code kinds error (inr other) reports none = absurd (rw none at other)

module _ {O : Type 0} (Asks : List Row → O → Type 0) (States : List ℕ → Settings O → Input → List ℕ → Reply → Type 0)
    (rows : List Row)
  where
    -- a run of the tool
    pub job_comes : (asked : Asked O) → Ask Asks rows asked → (grammar : List ℕ) (reader out err : Stream) (code : ℕ)
        → RunIsRight (States grammar asked.settings) reader out err code
        → RunIsRight (JobStates Asks States rows) reader out err code
    job_comes asked ask grammar =
        comes_as (States grammar asked.settings) (JobStates Asks States rows)
        (λ input notes reply is. runs grammar asked notes reply ask is)

    -- the end of a run that has no job
    module _ (r0 : Option (List ℕ)) (r_was r_failed : Bool) (out err : Stream) (code : ℕ) where
      pub unready_comes : (why : Unready) (kinds : Kinds) → kinds ≡ [] → IsUnready kinds why →
          ((stop : Stop) → IsStopOf why stop → ReportsOf stop out.old out.new out.failed err.old err.new err.failed
          code)
          →
          RunIsRight (JobStates Asks States rows)
          (record { old = r0; new = r0; was = r_was; failed = r_failed }) out err code
      unready_comes (unready.Words error) kinds none (inl memory) reports =
          stop_comes (JobStates Asks States rows) NoMemory (λ input. no_memory) r0 r_was r_failed out err code
          (reports NoMemory (memory, refl))
      unready_comes (unready.Words error) kinds none (inr other) reports = absurd (rw none at other)
      unready_comes unready.Unreadable kinds none is reports =
          stop_comes (JobStates Asks States rows) Unreadable (λ input. unreadable) r0 r_was r_failed out err code
          (reports Unreadable refl)
      unready_comes unready.NoMemory kinds none is reports =
          stop_comes (JobStates Asks States rows) NoMemory (λ input. no_memory) r0 r_was r_failed out err code
          (reports NoMemory refl)

-- words with some fault
module _ (out err : Stream) (code : ℕ) where
  abbrev Words : Kinds → Type 0
  Words kinds = RunIsRight (WordsState kinds) no_input out err code

  abbrev Reports : Stop → Type 0
  Reports stop = ReportsOf stop out.old out.new out.failed err.old err.new err.failed code

  pub without_room : (kinds : Kinds) → Reports NoMemory → Words kinds
  without_room kinds = stop_comes (WordsState kinds) NoMemory (λ input. has_no_room) (Some []) false false out err code

  pub fault_said : (kind : ErrorKind) (text : List ℕ) → IsNoHelp kind
      → RunIsRight (IsReportedAnd text (Quiet Refused)) no_input out err code → Words (kind ∷ [])
  fault_said kind text no_help =
      comes_as (IsReportedAnd text (Quiet Refused)) (WordsState (kind ∷ []))
      (λ input notes reply is. rw (is.0, is.1) (says_fault kind text (inl refl) no_help)) no_input out err code

  pub help_shown : (kind : ErrorKind) (text : List ℕ) → (IsNoHelp kind → ⊥)
      → RunIsRight (IsTextAlone text) no_input out err code → Words (kind ∷ [])
  help_shown kind text help =
      comes_as (IsTextAlone text) (WordsState (kind ∷ []))
      (λ input notes reply is. rw (is.0, is.1) (shows_help kind text (inl refl) help)) no_input out err code

  -- one kind of some
  one_among : (kind : ErrorKind) (kinds : Kinds) → IsAmong kind kinds → (input : Input) (notes : List ℕ) (reply : Reply)
      → WordsState (kind ∷ []) input notes reply → WordsState kinds input notes reply
  one_among kind kinds among input notes reply (says_fault k text (inl is) no_help) =
      says_fault k text (rw is among) no_help
  one_among kind kinds among input notes reply (says_fault k text (inr is) no_help) = absurd is
  one_among kind kinds among input notes reply (shows_help k text (inl is) help) = shows_help k text (rw is among) help
  one_among kind kinds among input notes reply (shows_help k text (inr is) help) = absurd is
  one_among kind kinds among input notes reply has_no_room = has_no_room

  pub words_come : (error : Error) (kinds : Kinds) → HasKind kinds error → Words (kind_of error ∷ [])
      → (kind_of error ≡ OutOfMemory → Reports NoMemory) → Words kinds
  words_come error kinds (inl memory) words reports = without_room kinds (reports memory)
  words_come error kinds (inr among) words reports =
      comes_as (WordsState (kind_of error ∷ [])) (WordsState kinds) (one_among (kind_of error) kinds among) no_input out
      err code words
