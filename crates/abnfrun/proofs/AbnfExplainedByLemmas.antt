-- Explanations change no answer and no status.
-- Serves: explanations_change_no_answer
use Rattle.std.proofs.Common.{◌≡◌, ◌≢◌, ℕ, Bool, true, inl, inr, List, [], refl, sym, ◌∙◌, None}
use Rattle.abnfread.specs.AbnfReading.{IsFaultOf, Reads}
use Rattle.abnfread.proofs.AbnfFaultLemmas.{one-reading, one-fault, no-fault}
use Rattle.abnfprint.specs.AbnfReadBack.{file_rules}
use Rattle.abnfrun.specs.AbnfAnswers.{AbnfStates, refused, unexplained, noted, checked, judges, cut_notes}
use Rattle.abnfrun.specs.AbnfAnswers.{again, cut_again, printed, no_memory}
use Rattle.abnfrun.specs.AbnfNoted.{AreAgain, AreNotesOn, IsRefusedFor, all_rules, judged_of, rule_given}
use Rattle.abnfrun.specs.AbnfReply.{AnswersFor, CostlyFor, RefusalFor, form_of, printed_rules}
use Rattle.abnfrun.specs.AbnfSettings.{AbnfSettings}
use Rattle.abnfrun.proofs.AbnfStatesLemmas.{AnswersAreOne, PlainOf, notes_are_one, one_again, one_run}
use Rattle.abnfrun.proofs.IsAnswerOnLemmas.{FurthestIsOne}
use Rattle.abnfrun.proofs.IsAnswerToLemmas.{TextIsOne, one_answer}
use Rattle.linejudge.proofs.LineRunLemmas.{same_but_why}
use Rattle.toolrun.specs.Explained.{explained_by}
use Rattle.toolrun.specs.Input.{Input}
use Rattle.toolrun.specs.Reply.{Reply, SameButWhy, refusal}
use Rattle.toolrun.proofs.OneStatementLemmas.{Stated, one_stated, is_noted, is_checked, is_run, is_again, is_printed}
use Rattle.toolrun.proofs.SameButWhyLemmas.{same_itself, same_twice}

module _ (settings : AbnfSettings) (input : Input) (text : List ℕ) where
  -- what is stated where nothing is explained, without the notes
  abbrev IsBare : Reply → Type 0
  IsBare reply = Stated (IsFaultOf text) (λ fault why. why ≡ []) (Reads text)
      (λ definitions. AreNotesOn definitions (rule_given settings))
      (λ definitions notes. IsRefusedFor definitions (rule_given settings))
      (λ definitions notes. IsRefusedFor definitions (rule_given settings) → ⊥) AreAgain
      (λ notes reported. reported ≡ []) (λ notes reported. reported ≡ []) (PlainOf settings input)
      (λ definitions. printed_rules (file_rules definitions)) settings.mode [] reply

  -- .. but for what explains
  abbrev IsBarely : Reply → Type 0
  IsBarely reply = (bare : Reply) × IsBare bare × SameButWhy true reply bare

  is_itself : (reply : Reply) → IsBare reply → IsBarely reply
  is_itself reply is = (reply, is, same_itself true reply)

  bare_suffixes : (notes : List ℕ) (reply : Reply) → AbnfStates text settings input notes reply → reply.status ≢ 5
      → IsBarely reply
  bare_suffixes notes reply (refused fault why f m reported) ample = (
    refusal fault [],
    inl (record {
      fault = fault;
      is_fault = f;
      other = m;
      why = [];
      explains = refl;
      none = refl;
      reported = refl;
    }),
    record { out = refl; status = refl; taken = refl; err = λ asked. absurd (cc) },
  )
  bare_suffixes notes reply (unexplained fault f m asked) ample = absurd (ample refl)
  bare_suffixes notes reply (noted ds said reported r are reports bad mode) ample =
      is_itself reply (inr (record { definitions = ds; reads = r; states = is_noted said [] are refl bad mode }))
  bare_suffixes notes reply (checked ds said reported r are reports fine mode) ample =
      is_itself reply (inr (record { definitions = ds; reads = r; states = is_checked said [] are refl fine mode }))
  bare_suffixes notes reply (judges ds said reported stated r are reports fine mode run) ample =
      let rules = all_rules ds in
      let judged = judged_of ds (rule_given settings) in
      let plain = same_but_why (AnswersFor rules judged settings) settings.explain (RefusalFor rules judged settings)
      (CostlyFor rules judged settings) (form_of settings) input stated run ample in (
        plain.0,
        inr (record {
          definitions = ds;
          reads = r;
          states = is_run said [] plain.0 are refl fine mode plain.1;
        }),
        record {
          out = plain.2.out;
          status = plain.2.status;
          taken = plain.2.taken;
          err = λ asked. absurd (cc);
        },
      )
  bare_suffixes notes reply (cut_notes ds said reported r are cut mode) ample = absurd (ample refl)
  bare_suffixes notes reply (again ds said reported r are reports some mode) ample =
      is_itself reply (inr (record { definitions = ds; reads = r; states = is_again said [] are refl some mode }))
  bare_suffixes notes reply (cut_again ds said reported r are cut mode) ample = absurd (ample refl)
  bare_suffixes notes reply (printed ds r are mode) ample =
      is_itself reply (inr (record { definitions = ds; reads = r; states = is_printed are mode }))
  bare_suffixes notes reply (no_memory within) ample = absurd (ample refl)

  one_bare : AnswersAreOne settings → settings.options.budget ≡ None → (a b : Reply) → IsBare a → IsBare b →
      a.status ≢ 5 → b.status ≢ 5 → a ≡ b
  one_bare one free a b g h m n =
      let both = one_stated (IsFaultOf text) (λ fault why. why ≡ []) (Reads text)
      (λ definitions. AreNotesOn definitions (rule_given settings))
      (λ definitions notes. IsRefusedFor definitions (rule_given settings))
      (λ definitions notes. IsRefusedFor definitions (rule_given settings) → ⊥) AreAgain
      (λ notes reported. reported ≡ []) (λ notes reported. reported ≡ []) (PlainOf settings input)
      (λ definitions. printed_rules (file_rules definitions)) settings.mode (one-reading text) (one-fault text)
      (λ fault x y p q. p ∙ sym q) (no-fault text) (notes_are_one settings input) one_again
      (λ notes x y p q. p ∙ sym q) (λ notes x y p q. p ∙ sym q) (λ definitions notes bad fine. fine bad)
      (one_run settings input one free) [] [] a b g h m n in
      both.1

-- one output, one status and as many bytes taken, with and without explanations
pub no_answer_changes : TextIsOne → FurthestIsOne → (text : List ℕ) (settings : AbnfSettings) (asked : Bool)
    (input : Input) (notes others : List ℕ) (a b : Reply) → settings.options.budget ≡ None
    → AbnfStates text settings input notes a
    → AbnfStates text (explained_by asked settings) input others b → a.status ≢ 5 → b.status ≢ 5
    → SameButWhy true a b
no_answer_changes one furthest text settings asked input notes others a b free g h m n =
    let p = bare_suffixes settings input text notes a g m in
    let q = bare_suffixes (explained_by asked settings) input text others b h n in
    let same : p.0 ≡ q.0 = one_bare settings input text
    (λ rules judged line. one_answer one furthest settings.options.letters rules judged line
    settings.options.viable) free p.0 q.0 p.1 q.1 (λ e. m (p.2.status ∙ e)) (λ e. n (q.2.status ∙ e)) in
    same_twice true a b p.0 q.0 p.2 q.2 same
