-- What is stated for a text in ABNF, settings and an input is one, unless an allocation fails.
-- Serves: one_reply_of_abnf, one_statement_of_abnf, explanations_change_no_answer
use Rattle.std.proofs.Common.{◌≡◌, ◌≢◌, ℕ, None, inl, inr, List, [], refl, sym, ◌∙◌, ap, map, subst, arith, Option}
use Rattle.ruletable.specs.Notes.{Said, said}
use Rattle.ruletable.specs.declared.fault.ReadFault.{ReadFault}
use Rattle.ruletable.specs.declared.fault.ReadFault.TheVariants.{TooLong}
use Rattle.ruletable.specs.declared.note.NoteKind.TheVariants.{Redefined}
use Rattle.std.specs.Prelude.{Contains}
use Rattle.abnfread.specs.AbnfReading.{Reads, IsFaultOf}
use Rattle.abnfread.specs.AbnfTable.{earlies}
use Rattle.abnfread.specs.CoreRules.{core_list}
use Rattle.abnfread.specs.Element.{Definition, Rule, body_of}
use Rattle.abnfread.proofs.AbnfFaultLemmas.{one-reading, one-fault, no-fault}
use Rattle.abnfcheck.proofs.AbnfNotesLemmas.{notes_same, those_same}
use Rattle.abnfexplain.specs.AbnfAllFaults.{ExplainsAll}
use Rattle.abnfrun.specs.AbnfExplainedNotes.{ExplainsAbnfNote}
use Rattle.abnfrun.specs.AbnfAnswers.{AbnfStates, refused, unexplained, noted, checked, judges, cut_notes}
use Rattle.abnfrun.specs.AbnfAnswers.{again, cut_again, printed, no_memory}
use Rattle.abnfprint.specs.AbnfReadBack.{file_rules}
use Rattle.abnfrun.specs.AbnfNoted.{all_rules, again_in, judged_of, AreNotesOn, IsRefusedFor, AreAgain}
use Rattle.abnfrun.specs.AbnfNoted.{rule_given}
use Rattle.abnfrun.specs.AbnfTextHints.{AreTextHints}
use Rattle.abnfrun.specs.AbnfReply.{AnswersFor, CostlyFor, RefusalFor, form_of, printed_rules}
use Rattle.abnfrun.proofs.IsAnswerOnLemmas.{FurthestIsOne}
use Rattle.abnfrun.proofs.IsAnswerToLemmas.{TextIsOne, one_answer}
use Rattle.linejudge.specs.declared.answers.Answer.{Answer}
use Rattle.linejudge.specs.InputLines.{Lines, LinesEnd, position_taken}
use Rattle.linejudge.proofs.LineRunLemmas.{same_but_why}
use Rattle.linejudge.proofs.LinesReplyLemmas.{one_plain}
use Rattle.toolrun.specs.Input.{Input}
use Rattle.toolrun.specs.Explained.{Explained, IsLongReply}
use Rattle.toolrun.specs.Reply.{Reply, SameButWhy, refusal, unexplained_fault}
use Rattle.toolrun.specs.RunSteps as steps
use Rattle.abnfrun.specs.AbnfSettings.{AbnfSettings}
use Rattle.toolrun.proofs.OneStatementLemmas.{Stated, one_stated, one-explained, is_noted, is_checked, is_run}
use Rattle.toolrun.proofs.OneStatementLemmas.{is_again, is_printed}
use Rattle.toolrun.proofs.ReportedNotesLemmas.{hinted-one, reported-one}
use Rattle.toolrun.proofs.SameButWhyLemmas.{same_itself, same_twice}
use Rattle.toolrun.specs.ReportedNotes.{HintedNotes, ReportedNotes, WhyNoted}

-- each line has one answer
abbrev pub AnswersAreOne : AbnfSettings → Type 0
AnswersAreOne settings = (rules : List Rule) (judged : ℕ) (line : List ℕ) (a b : Answer)
    → AnswersFor rules judged settings line a → AnswersFor rules judged settings line b → a ≡ b

-- without a budget no line needs too many items
pub never_costly : (rules : List Rule) (judged : ℕ) (settings : AbnfSettings) → settings.options.budget ≡ None
    → (line : List ℕ) (n : ℕ) → CostlyFor rules judged settings line n → ⊥
never_costly rules judged settings free line n needs = let is = needs.more.is_budget in absurd (cc)

-- the notes on redefinitions are one list
pub one_again : (definitions : List Definition) (a b : List Said) → AreAgain definitions a → AreAgain definitions b
    → a ≡ b
one_again definitions a b g h =
    let names = those_same (Contains (again_in definitions)) g.are_those h.are_those in
    g.all ∙ ap (map (said Redefined)) names ∙ sym h.all

-- what explains a fault is one text
abbrev ExplanationsAreOne : Type 0
ExplanationsAreOne = (text : List ℕ) (fault : ReadFault) (a b : List ℕ) → ExplainsAll text fault a
    → ExplainsAll text fault b → a ≡ b

-- what explains a note is one text
abbrev NotesAreOne : Type 0
NotesAreOne = (text : List ℕ) (start : Option (List ℕ)) (note : Said) (a b : List ℕ)
    → ExplainsAbnfNote text start note a → ExplainsAbnfNote text start note b → a ≡ b

-- the hints on a text are one text
abbrev HintsAreOne : Type 0
HintsAreOne = (text : List ℕ) (settings : AbnfSettings) (a b : List ℕ) → AreTextHints text settings a
    → AreTextHints text settings b → a ≡ b

module _ (settings : AbnfSettings) (input : Input) where
  -- what a run of these definitions states without explanations
  abbrev pub PlainOf : List Definition → Reply → Type 0
  PlainOf definitions reply = steps.Replies
      (Lines (AnswersFor (all_rules definitions) (judged_of definitions (rule_given settings)) settings)
      (form_of settings) input)
      (LinesEnd (CostlyFor (all_rules definitions) (judged_of definitions (rule_given settings)) settings)
      (form_of settings) input)
      (position_taken (form_of settings).limit input) reply

  pub one_run : AnswersAreOne settings → settings.options.budget ≡ None → (definitions : List Definition) (a b : Reply)
      → PlainOf definitions a
      → PlainOf definitions b → a.status ≢ 5 → b.status ≢ 5 → a ≡ b
  one_run one free definitions a b r q m n =
      let rules = all_rules definitions in
      let judged = judged_of definitions (rule_given settings) in
      one_plain (AnswersFor rules judged settings) (one rules judged) (CostlyFor rules judged settings)
      (never_costly rules judged settings free) (form_of settings) input a b r q

  pub notes_are_one : (definitions : List Definition) (a b : List Said) → AreNotesOn definitions (rule_given settings) a
      → AreNotesOn definitions (rule_given settings) b → a ≡ b
  notes_are_one definitions = notes_same (file_rules definitions) (all_rules definitions) (again_in definitions)
      (earlies (body_of core_list) 0 [] definitions) (rule_given settings)

  module _ (text : List ℕ) where
    abbrev IsStated : List ℕ → Reply → Type 0
    IsStated = Stated (IsFaultOf text) (λ fault. Explained settings (ExplainsAll text fault)) (Reads text)
        (λ definitions. AreNotesOn definitions (rule_given settings))
        (λ definitions notes. IsRefusedFor definitions (rule_given settings))
        (λ definitions notes. IsRefusedFor definitions (rule_given settings) → ⊥) AreAgain
        (HintedNotes settings (ExplainsAbnfNote text) (AreTextHints text settings))
        (ReportedNotes settings (ExplainsAbnfNote text)) PlainOf
        (λ definitions. printed_rules (file_rules definitions)) settings.mode

    -- it is stated, but for what explains a run
    abbrev IsAlmost : List ℕ → Reply → Type 0
    IsAlmost notes reply = (plain : Reply) × IsStated notes plain × SameButWhy settings.explain reply plain

    is_itself : (notes : List ℕ) (reply : Reply) → IsStated notes reply → IsAlmost notes reply
    is_itself notes reply is = (reply, is, same_itself settings.explain reply)

    suffixes_of_states : (notes : List ℕ) (reply : Reply) → AbnfStates text settings input notes reply
        → reply.status ≢ 5
        → IsAlmost notes reply
    suffixes_of_states notes reply (refused fault why f m reported) ample = is_itself notes reply (inl (record {
      fault = fault;
      is_fault = f;
      other = m;
      why = why;
      explains = reported;
      none = refl;
      reported = refl;
    }))
    suffixes_of_states notes reply (unexplained fault f m asked) ample = absurd (ample refl)
    suffixes_of_states notes reply (noted ds said reported r are reports bad mode) ample =
        is_itself notes reply (inr (record {
          definitions = ds;
          reads = r;
          states = is_noted said reported are reports bad mode;
        }))
    suffixes_of_states notes reply (checked ds said reported r are reports fine mode) ample =
        is_itself notes reply (inr (record {
          definitions = ds;
          reads = r;
          states = is_checked said reported are reports fine mode;
        }))
    suffixes_of_states notes reply (judges ds said reported stated r are reports fine mode run) ample =
        let rules = all_rules ds in
        let judged = judged_of ds (rule_given settings) in
        let plain = same_but_why (AnswersFor rules judged settings) settings.explain (RefusalFor rules judged settings)
        (CostlyFor rules judged settings) (form_of settings) input stated run ample in (
          plain.0,
          inr (record {
            definitions = ds;
            reads = r;
            states = is_run said reported plain.0 are reports fine mode plain.1;
          }),
          plain.2,
        )
    suffixes_of_states notes reply (cut_notes ds said reported r are cut mode) ample = absurd (ample refl)
    suffixes_of_states notes reply (again ds said reported r are reports some mode) ample =
        is_itself notes reply (inr (record {
          definitions = ds;
          reads = r;
          states = is_again said reported are reports some mode;
        }))
    suffixes_of_states notes reply (cut_again ds said reported r are cut mode) ample = absurd (ample refl)
    suffixes_of_states notes reply (printed ds r are mode) ample =
        is_itself notes reply (inr (record { definitions = ds; reads = r; states = is_printed are mode }))
    suffixes_of_states notes reply (no_memory within) ample = absurd (ample refl)

    one_of_text : ExplanationsAreOne → NotesAreOne → HintsAreOne → AnswersAreOne settings
        → settings.options.budget ≡ None → (notes others : List ℕ) (a b : Reply) → IsStated notes a → IsStated others
        b → a.status ≢ 5
        → b.status ≢ 5 → (notes ≡ others) × (a ≡ b)
    one_of_text explained reported hints one free = one_stated (IsFaultOf text)
        (λ fault. Explained settings (ExplainsAll text fault)) (Reads text)
        (λ definitions. AreNotesOn definitions (rule_given settings))
        (λ definitions notes. IsRefusedFor definitions (rule_given settings))
        (λ definitions notes. IsRefusedFor definitions (rule_given settings) → ⊥) AreAgain
        (HintedNotes settings (ExplainsAbnfNote text) (AreTextHints text settings))
        (ReportedNotes settings (ExplainsAbnfNote text)) PlainOf
        (λ definitions. printed_rules (file_rules definitions)) settings.mode (one-reading text) (one-fault text)
        (λ fault. one-explained settings (ExplainsAll text fault) (explained text fault)) (no-fault text) notes_are_one
        one_again
        (hinted-one settings (ExplainsAbnfNote text) (AreTextHints text settings) one_line (hints text settings))
        (λ notes. reported-one one_line)
        (λ definitions notes bad fine. fine bad) (one_run one free)
      where
        one_line : (note : Said) (a b : List ℕ) → WhyNoted settings (ExplainsAbnfNote text) note a
            → WhyNoted settings (ExplainsAbnfNote text) note b → a ≡ b
        one_line note = one-explained settings (ExplainsAbnfNote text (rule_given settings) note)
            (reported text (rule_given settings) note)

-- one list of notes, and one reply but for what explains it
pub one_statement : ExplanationsAreOne → NotesAreOne → HintsAreOne → TextIsOne → FurthestIsOne
    → (text : List ℕ) (settings : AbnfSettings) (input : Input) (notes others : List ℕ) (a b : Reply) →
    settings.options.budget ≡ None → AbnfStates text settings input notes a → AbnfStates text settings input others b
    → a.status ≢ 5 → b.status ≢ 5
    → (notes ≡ others) × SameButWhy settings.explain a b
one_statement explained reported hints one furthest text settings input notes others a b free g h m n =
    let p = suffixes_of_states settings input text notes a g m in
    let q = suffixes_of_states settings input text others b h n in
    let same = one_of_text settings input text explained reported hints
    (λ rules judged line. one_answer one furthest settings.options.letters rules judged line
    settings.options.viable) free notes others p.0 q.0 p.1 q.1 (λ e. m (p.2.status ∙ e)) (λ e. n (q.2.status ∙ e)) in
    (same.0, same_twice settings.explain a b p.0 q.0 p.2 q.2 same.1)

-- what spells definitions is not too long
long-unread : {text : List ℕ} {definitions : List Definition} → IsFaultOf text TooLong → Reads text definitions → ⊥
long-unread long r = let within = r.size in omega arith

-- a text that is too long is reported so, whatever memory does
pub long_is_reported : (text : List ℕ) (settings : AbnfSettings) (input : Input) (notes : List ℕ) (reply : Reply)
    → IsFaultOf text TooLong → AbnfStates text settings input notes reply
    → (notes ≡ []) × IsLongReply settings (ExplainsAll text TooLong) reply
long_is_reported text settings input notes reply long (refused fault why f other reported) =
    let is : fault ≡ TooLong = one-fault text fault TooLong f long other (λ e. cc) in (
      refl,
      inl (
        why,
        subst (λ (f : ReadFault). Explained settings (ExplainsAll text f) why) is reported,
        ap (λ f. refusal f why) is,
      ),
    )
long_is_reported text settings input notes reply long (unexplained fault f other asked) = (
  refl,
  inr (asked, ap unexplained_fault (one-fault text fault TooLong f long other (λ e. cc))),
)
long_is_reported text settings input notes reply long (noted ds said reported r are reports bad mode) =
    absurd (long-unread long r)
long_is_reported text settings input notes reply long (checked ds said reported r are reports fine mode) =
    absurd (long-unread long r)
long_is_reported text settings input notes reply long (judges ds said reported stated r are reports fine mode run) =
    absurd (long-unread long r)
long_is_reported text settings input notes reply long (cut_notes ds said reported r are cut mode) =
    absurd (long-unread long r)
long_is_reported text settings input notes reply long (again ds said reported r are reports some mode) =
    absurd (long-unread long r)
long_is_reported text settings input notes reply long (cut_again ds said reported r are cut mode) =
    absurd (long-unread long r)
long_is_reported text settings input notes reply long (printed ds r are mode) = absurd (long-unread long r)
long_is_reported text settings input notes reply long (no_memory within) = absurd (omega arith)
