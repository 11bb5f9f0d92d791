-- What is stated for a grammar's text, settings and an input is one, unless an allocation fails.
-- Serves: one_statement, explanations_change_no_answer
use Rattle.std.proofs.Common.{◌≡◌, ◌≢◌, ℕ, inl, inr, List, [], refl, sym, ◌∙◌, ap, map, subst, arith}
use Rattle.std.proofs.Common.{true, false, Option}
use Rattle.std.specs.Prelude.{Contains}
use Rattle.ruletable.specs.Notes.{Said, said}
use Rattle.ruletable.specs.declared.fault.ReadFault.{ReadFault}
use Rattle.ruletable.specs.declared.fault.ReadFault.TheVariants.{TooLong}
use Rattle.ruletable.specs.declared.note.NoteKind.TheVariants.{Redefined}
use Rattle.pegread.specs.Definitions.{firsts, agains}
use Rattle.pegread.specs.Pattern.{Rule}
use Rattle.pegread.specs.Reading.{Reads, IsFaultOf}
use Rattle.pegread.proofs.IsFaultOfLemmas.{one-reading, one-fault, no-fault}
use Rattle.gramcheck.specs.Checked.{is_refused, IsStart}
use Rattle.gramcheck.specs.GrammarNotes.{names_at}
use Rattle.gramcheck.proofs.AreNotesLemmas.{notes-one, those-one}
use Rattle.pegprint.specs.PegAllFaults.{ExplainsAll}
use Rattle.pegexplain.specs.PegNotes.{ExplainsNote}
use Rattle.pegexplain.specs.PegHints.{ArePegHints}
use Rattle.pegrun.specs.Answers.{States, refused, unexplained, noted, checked, runs, cut_notes, again}
use Rattle.pegrun.specs.Answers.{cut_again, printed, no_memory}
use Rattle.pegrun.specs.Noted.{AreNotesOn, AreAgain, start_given}
use Rattle.pegrun.specs.PegReply.{printed_text, PlainReplies}
use Rattle.pegrun.proofs.FirstsLemmas.{start_is_one}
use Rattle.pegrun.proofs.OneReplyLemmas.{one_plain}
use Rattle.pegrun.proofs.WhyStoppedLemmas.{same_but_why}
use Rattle.toolrun.specs.Input.{Input}
use Rattle.toolrun.specs.Explained.{Explained, IsLongReply}
use Rattle.toolrun.specs.Reply.{Reply, SameButWhy, refusal, unexplained_fault}
use Rattle.pegrun.specs.PegSettings.{PegSettings}
use Rattle.toolrun.proofs.OneStatementLemmas.{Stated, one_stated, one-explained, is_noted, is_checked, is_run}
use Rattle.toolrun.proofs.OneStatementLemmas.{is_again, is_printed}
use Rattle.toolrun.proofs.ReportedNotesLemmas.{hinted-one, reported-one}
use Rattle.toolrun.proofs.SameButWhyLemmas.{same_itself, same_twice}
use Rattle.toolrun.specs.ReportedNotes.{HintedNotes, ReportedNotes, WhyNoted}

-- the notes on redefinitions are one list
pub again_is_one : (definitions : List Rule) (a b : List Said) → AreAgain definitions a → AreAgain definitions b → a ≡ b
again_is_one definitions a b g h =
    let again = names_at (firsts [] definitions) (agains [] definitions) in
    let rules = those-one (λ (rule : Rule). Contains again rule.name) (firsts [] definitions) g.redefined h.redefined
    g.are_redefined h.are_redefined in
    g.all ∙ ap (map (λ (rule : Rule). said Redefined rule.name)) rules ∙ sym h.all

-- what explains a fault is one text
abbrev ExplanationsAreOne : Type 0
ExplanationsAreOne = (text : List ℕ) (fault : ReadFault) (a b : List ℕ) → ExplainsAll text fault a
    → ExplainsAll text fault b → a ≡ b

-- what explains a note is one text
abbrev pub NotesAreOne : Type 0
NotesAreOne = (text : List ℕ) (start : Option (List ℕ)) (note : Said) (a b : List ℕ) → ExplainsNote text start note a
    → ExplainsNote text start note b → a ≡ b

-- the hints on a text are one text
abbrev pub HintsAreOne : Type 0
HintsAreOne = (text a b : List ℕ) → ArePegHints text a → ArePegHints text b → a ≡ b

module _ (settings : PegSettings) (input : Input) where
  -- what a run of these definitions states without explanations
  pub record RunOf (definitions : List Rule) (reply : Reply) : Type 0 where
    pub start : ℕ
    pub is_start : IsStart (start_given settings) (firsts [] definitions) start
    pub replies : PlainReplies (firsts [] definitions) start settings input reply

  pub one_run : (definitions : List Rule) (a b : Reply) → RunOf definitions a → RunOf definitions b → a.status ≢ 5
      → b.status ≢ 5 → a ≡ b
  one_run definitions a b g h m n =
      let same : h.start ≡ g.start = start_is_one (start_given settings) definitions h.start g.start h.is_start
      g.is_start in
      one_plain (firsts [] definitions) g.start settings input a b g.replies
      (subst (λ (s : ℕ). PlainReplies (firsts [] definitions) s settings input b) same h.replies)

  pub notes_are_one : (definitions : List Rule) (a b : List Said) → AreNotesOn definitions (start_given settings) a
      → AreNotesOn definitions (start_given settings) b → a ≡ b
  notes_are_one definitions =
      notes-one (firsts [] definitions) (names_at (firsts [] definitions) (agains [] definitions))
      (start_given settings)

  module _ (text : List ℕ) where
    abbrev IsStated : List ℕ → Reply → Type 0
    IsStated = Stated (IsFaultOf text) (λ fault. Explained settings (ExplainsAll text fault)) (Reads text)
        (λ definitions. AreNotesOn definitions (start_given settings))
        (λ definitions notes. is_refused notes ≡ true) (λ definitions notes. is_refused notes ≡ false) AreAgain
        (HintedNotes settings (ExplainsNote text) (ArePegHints text)) (ReportedNotes settings (ExplainsNote text)) RunOf
        printed_text settings.mode

    -- it is stated, but for what explains a run
    abbrev IsAlmost : List ℕ → Reply → Type 0
    IsAlmost notes reply = (plain : Reply) × IsStated notes plain × SameButWhy settings.explain reply plain

    is_itself : (notes : List ℕ) (reply : Reply) → IsStated notes reply → IsAlmost notes reply
    is_itself notes reply is = (reply, is, same_itself settings.explain reply)

    parts_of : (notes : List ℕ) (reply : Reply) → States text settings input notes reply → reply.status ≢ 5
        → IsAlmost notes reply
    parts_of notes reply (refused fault why f m reported) ample = is_itself notes reply (inl (record {
      fault = fault;
      is_fault = f;
      other = m;
      why = why;
      explains = reported;
      none = refl;
      reported = refl;
    }))
    parts_of notes reply (unexplained fault f m asked) ample = absurd (ample refl)
    parts_of notes reply (noted ds said reported r are reports bad mode) ample = is_itself notes reply (inr (record {
      definitions = ds;
      reads = r;
      states = is_noted said reported are reports bad mode;
    }))
    parts_of notes reply (checked ds said reported r are reports fine mode) ample =
        is_itself notes reply (inr (record {
          definitions = ds;
          reads = r;
          states = is_checked said reported are reports fine mode;
        }))
    parts_of notes reply (runs ds said reported start stated r are reports fine mode is run) ample =
        let plain = same_but_why (firsts [] ds) start settings input stated run ample in (
          plain.0,
          inr (record {
            definitions = ds;
            reads = r;
            states = is_run said reported plain.0 are reports fine mode (record {
              start = start;
              is_start = is;
              replies = plain.1;
            });
          }),
          plain.2,
        )
    parts_of notes reply (cut_notes ds said reported r are cut mode) ample = absurd (ample refl)
    parts_of notes reply (again ds said reported r are reports some mode) ample = is_itself notes reply (inr (record {
      definitions = ds;
      reads = r;
      states = is_again said reported are reports some mode;
    }))
    parts_of notes reply (cut_again ds said reported r are cut mode) ample = absurd (ample refl)
    parts_of notes reply (printed ds r are mode) ample =
        is_itself notes reply (inr (record { definitions = ds; reads = r; states = is_printed are mode }))
    parts_of notes reply (no_memory within) ample = absurd (ample refl)

    one_of_text : ExplanationsAreOne → NotesAreOne → HintsAreOne → (notes others : List ℕ)
        (a b : Reply) → IsStated notes a
        → IsStated others b → a.status ≢ 5 → b.status ≢ 5 → (notes ≡ others) × (a ≡ b)
    one_of_text one lines hints = one_stated (IsFaultOf text)
        (λ fault. Explained settings (ExplainsAll text fault))
        (Reads text)
        (λ definitions. AreNotesOn definitions (start_given settings))
        (λ definitions notes. is_refused notes ≡ true) (λ definitions notes. is_refused notes ≡ false) AreAgain
        (HintedNotes settings (ExplainsNote text) (ArePegHints text)) (ReportedNotes settings (ExplainsNote text)) RunOf
        printed_text settings.mode (one-reading text) (one-fault text)
        (λ fault. one-explained settings (ExplainsAll text fault) (one text fault)) (no-fault text) notes_are_one
        again_is_one
        (hinted-one settings (ExplainsNote text) (ArePegHints text) one_line (hints text))
        (λ notes. reported-one one_line)
        (λ definitions notes bad fine. absurd (cc)) one_run
      where
        one_line : (note : Said) (a b : List ℕ) → WhyNoted settings (ExplainsNote text) note a
            → WhyNoted settings (ExplainsNote text) note b → a ≡ b
        one_line note = one-explained settings (ExplainsNote text (start_given settings) note)
            (lines text (start_given settings) note)

-- one list of notes, and one reply but for what explains it
pub statement_is_one : ExplanationsAreOne → NotesAreOne → HintsAreOne
    → (text : List ℕ) (settings : PegSettings) (input : Input)
    (notes others : List ℕ) (a b : Reply) →
    States text settings input notes a → States text settings input others b → a.status ≢ 5 → b.status ≢ 5
    → (notes ≡ others) × SameButWhy settings.explain a b
statement_is_one one lines hints text settings input notes others a b g h m n =
    let p = parts_of settings input text notes a g m in
    let q = parts_of settings input text others b h n in
    let same = one_of_text settings input text one lines hints notes others p.0 q.0 p.1 q.1
    (λ e. m (p.2.status ∙ e)) (λ e. n (q.2.status ∙ e)) in
    (same.0, same_twice settings.explain a b p.0 q.0 p.2 q.2 same.1)

-- what spells definitions is not too long
long-unread : {text : List ℕ} {definitions : List Rule} → IsFaultOf text TooLong → Reads text definitions → ⊥
long-unread long r = let within = r.within in omega arith

-- a text that is too long is reported as that, whether an allocation fails or not
pub long_is_reported : (text : List ℕ) (settings : PegSettings) (input : Input) (notes : List ℕ) (reply : Reply)
    → IsFaultOf text TooLong → States text settings input notes reply
    → (notes ≡ []) × IsLongReply settings (ExplainsAll text TooLong) reply
long_is_reported text settings input notes reply long (refused fault why f other reported) =
    let is : fault ≡ TooLong = one-fault text fault TooLong f long other (λ e. cc) in (
      refl,
      inl (
        why,
        subst (λ (f : ReadFault). Explained settings (ExplainsAll text f) why) is reported,
        ap (λ f. refusal f why) is,
      ),
    )
long_is_reported text settings input notes reply long (unexplained fault f other asked) = (
  refl,
  inr (asked, ap unexplained_fault (one-fault text fault TooLong f long other (λ e. cc))),
)
long_is_reported text settings input notes reply long (noted ds said reported r are reports bad mode) =
    absurd (long-unread long r)
long_is_reported text settings input notes reply long (checked ds said reported r are reports fine mode) =
    absurd (long-unread long r)
long_is_reported text settings input notes reply long (runs ds said reported start stated r are reports fine mode is
    run) =
    absurd (long-unread long r)
long_is_reported text settings input notes reply long (cut_notes ds said reported r are cut mode) =
    absurd (long-unread long r)
long_is_reported text settings input notes reply long (again ds said reported r are reports some mode) =
    absurd (long-unread long r)
long_is_reported text settings input notes reply long (cut_again ds said reported r are cut mode) =
    absurd (long-unread long r)
long_is_reported text settings input notes reply long (printed ds r are mode) = absurd (long-unread long r)
long_is_reported text settings input notes reply long (no_memory within) = absurd (omega arith)
