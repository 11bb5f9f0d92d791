-- What a run of an input in steps states, and what has been written of it.
use Rattle.std.specs.Prelude.{◌≡◌, ℕ, ◌≤◌, ◌++◌, List, [], Option, Result, Ok, Err, ◌⊎◌}
use Rattle.std.specs.Io.KnownBytes.{Appends}
use Rattle.ruletable.specs.Writing.{AppendsPart, IsPrefixOf}
use Rattle.ruletable.specs.declared.sink.WriteFault.{WriteFault}
use Rattle.toolrun.specs.Reply.{Reply, cut_reply, explained_reply}
use Rattle.toolrun.specs.RunEnd.{refusals_text}
use Rattle.toolrun.specs.Status.{code_of}
use Rattle.toolrun.specs.Stop.{message_of, not_explained, status_of}
use Rattle.toolrun.specs.declared.ending.Ending.{Ending}
use Rattle.toolrun.specs.declared.ending.Ending.TheVariants.{Plain, Explained, Unexplained}
use Rattle.toolrun.specs.declared.stop.Stop.{Stop}
use Rattle.toolrun.specs.declared.stop.Stop.TheVariants.{NoMemory}

-- Before says what is written on the way to a point, Ends what is written last where a run ends there, and taken_at how
-- many bytes of input are taken where the last step is begun there.
module _ {Point : Type 0} (Before : Point → List ℕ → Type 0) (Ends : Point → List ℕ → Stop → Type 0)
    (taken_at : Point → ℕ) where
  -- all steps in turn, and how the run ends
  pub record Replies (reply : Reply) : Type 0 where
    pub point : Point
    pub before : List ℕ
    pub last : List ℕ
    pub stop : Stop
    pub steps : Before point before
    pub ends : Ends point last stop
    pub out : reply.out ≡ before ++ last
    pub err : reply.err ≡ message_of stop
    pub status : reply.status ≡ code_of (status_of stop)
    pub taken : reply.taken ≡ taken_at point

  -- a reply that begins with the text, where no fewer bytes are taken
  pub record Begins (least : ℕ) (text : List ℕ) : Type 0 where
    pub reply : Reply
    pub replies : Replies reply
    pub front : IsPrefixOf text reply.out
    pub taken : least ≤ reply.taken

  -- Reports says what is reported of rejected lines on the way to a point, Why which lines explain how a run ends
  -- there, none where nothing is explained, and MayLack where an allocation may fail in explaining it.
  module _ (Reports : Point → List ℕ → Type 0) (Why : Point → Stop → List ℕ → Type 0) (MayLack : Point → Stop → Type 0)
    where
      -- the reply of all steps: what is reported of rejected lines, its message, and the lines that explain how the run
      -- ends
      pub record RepliesReported (reply : Reply) : Type 0 where
        pub plain : Reply
        pub replies : Replies plain
        pub before : List ℕ
        pub reports : Reports replies.point before
        pub why : List ℕ
        pub explains : Why replies.point replies.stop why
        pub reported : reply ≡ explained_reply before plain why

      -- A run states its reply so. Where an allocation fails in explaining how it ends, a line says so, and all else is
      -- as ever; where one fails before, the text of the first steps stands, and what is reported of them.
      pub data ReportedStates : Reply → Type 0 where
        replied_reported : (reply : Reply) → RepliesReported reply → ReportedStates reply
        unexplained : (plain : Reply) (replies : Replies plain) (reported : List ℕ) → Reports replies.point reported
            → MayLack replies.point replies.stop → ReportedStates (explained_reply reported plain not_explained)
        cut_short : (point : Point) (out reported : List ℕ) (reply : Reply) → Before point out → Reports point reported
            → Replies reply → IsPrefixOf out reply.out → ReportedStates (cut_reply reported out reply.taken)

      -- something stated that begins with the text, where no fewer bytes are taken
      pub record BeginsReported (least : ℕ) (text : List ℕ) : Type 0 where
        pub reply : Reply
        pub states : ReportedStates reply
        pub front : IsPrefixOf text reply.out
        pub taken : least ≤ reply.taken

      -- an allocation fails there, before anything is written last
      pub record IsCutThere (last : List ℕ) (stop : Stop) (why : List ℕ) : Type 0 where
        pub refused : stop ≡ NoMemory
        pub nothing : last ≡ []
        pub unexplained : why ≡ []

      -- how a run ends there, with what explains it, or since an allocation fails
      abbrev pub EndsReported : Point → List ℕ → Ending → Type 0
      EndsReported point last (Plain stop) = Reports point []
          × (IsCutThere last stop [] ⊎ (Ends point last stop × Why point stop []))
      EndsReported point last (Explained reported stop why) = Reports point (refusals_text reported)
          × (IsCutThere last stop why.items ⊎ (Ends point last stop × Why point stop why.items))
      EndsReported point last (Unexplained reported stop) = Reports point (refusals_text reported)
          × Ends point last stop
          × MayLack point stop

      -- after so many bytes were taken: the text of steps and of a last one, after which the run ends so; or
      -- a prefix of the text that something stated begins with
      abbrev pub HasReportedRun : ℕ → Option (List ℕ) → Option (List ℕ) → Result Ending WriteFault → Type 0
      HasReportedRun taken old new (Ok ending) = (point : Point) × (text last : List ℕ) × Before point text
          × Appends old new (text ++ last) × (taken ≡ taken_at point) × EndsReported point last ending
      HasReportedRun taken old new (Err fault) = (text : List ℕ) × BeginsReported taken text × AppendsPart old new text
