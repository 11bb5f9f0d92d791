-- What is stated for a grammar's text, from what is stated for the grammar.
-- Serves: abnfg_main (right)
use Rattle.std.proofs.Common.{◌≡◌, ◌∙◌, ℕ, List, [], Option, None, Some, false, refl, sym, subst, append-nil}
use Rattle.std.proofs.Common.{arith}
use Rattle.std.specs.Prelude.{option_copied}
use Rattle.abnfg.specs.ListAnswers.{JudgedReply, OpenedStates, TextStates, faulty, lists, no_memory, rejected}
use Rattle.abnfg.specs.ListedLines.{no_room}
use Rattle.abnfg.specs.declared.lines.ListSettings.{ListSettings}
use Rattle.abnfg.proofs.ReturnedLinesLemmas.{none_first}
use Rattle.abnfread.specs.AbnfReading.{IsFaultOf}
use Rattle.abnfread.specs.AbnfViews.{rules_of}
use Rattle.abnfread.specs.Element.{Rule}
use Rattle.abnfread.specs.declared.elem.Elem.{Elem}
use Rattle.abnfrun.specs.AbnfLanguage.{IsChecked}
use Rattle.abnfrun.specs.AbnfNoted.{all_rules}
use Rattle.ruletable.specs.Notes.{Said}
use Rattle.ruletable.specs.Rules as table
use Rattle.ruletable.specs.declared.fault.ReadFault.{ReadFault}
use Rattle.ruletable.specs.declared.fault.ReadFault.TheVariants.{CodePredicate, Depth, Memory, NumberTooLarge, Syntax}
use Rattle.ruletable.specs.declared.fault.ReadFault.TheVariants.{TooLong}
use Rattle.toolrun.specs.Explained.{ExplainedIf}
use Rattle.toolrun.specs.Input.{Input}
use Rattle.toolrun.specs.NotesText.{notes_text}
use Rattle.toolrun.specs.Plan.{stopped}
use Rattle.toolrun.specs.Reply.{Reply}
use Rattle.toolrun.specs.Stop.{unread}
use Rattle.toolrun.specs.ReportedNotes.{HintedNotes, ReportedNotes, no_note, note_reported}
use Rattle.toolrun.specs.declared.settings.Settings.{Settings as Opening}

-- notes that are not explained
module _ {O : Type 0} (opening : Opening O) (Why : Option (List ℕ) → Said → List ℕ → Type 0)
    (AreHints : List ℕ → Type 0) (plain : opening.explain ≡ false) where
  notes_plain : {notes : List Said} {text : List ℕ} → ReportedNotes opening Why notes text → text ≡ notes_text notes
  notes_plain no_note = refl
  notes_plain (note_reported {note = note} {why = why} {notes = notes} {text = text} is rest) =
      let none : why ≡ [] =
      subst (λ b. ExplainedIf b (Why (option_copied opening.start) note) why) plain is in
      let same : text ≡ notes_text notes = notes_plain rest in
      rw (none, same) refl

  pub hinted_plain : (notes : List Said) (text : List ℕ) → HintedNotes opening Why AreHints notes text
      → text ≡ notes_text notes
  hinted_plain notes text is =
      let none : is.hints ≡ [] = subst (λ b. ExplainedIf b AreHints is.hints) plain is.are_hints in
      is.all ∙ (rw none (append-nil is.first) ∙ notes_plain is.are_reported)

-- some reply is stated
pub judged_some : (settings : ListSettings) (rules : List Rule) (judged : Option ℕ)
    → (reply : Reply) × JudgedReply settings rules judged reply
judged_some settings rules None = (_, refl)
judged_some settings rules (Some id) = (
  _,
  no_room (none_first settings rules id settings.mode) (omega arith),
)

module _ (text : List ℕ) (settings : ListSettings) (notes : List Said) (rules : table.Rules Elem) (input : Input)
    (out reported : List ℕ) (reply : Reply) (same : reported ≡ notes_text notes) where
  listed_as : (judged : Option ℕ) → IsChecked text (option_copied settings.rule) notes rules judged
      → JudgedReply settings (rules_of rules) judged reply → TextStates text settings input (notes_text notes) reply
  listed_as None c is =
      subst (λ r. TextStates text settings input (notes_text notes) r) (sym is) (rejected c.reads c.are_notes c.ready)
  listed_as (Some id) c is =
      lists c.reads c.are_notes c.ready.0
      (subst (λ (i : ℕ). JudgedReply settings (all_rules c.definitions) (Some i) reply) c.ready.1
      (subst (λ (r : List Rule). JudgedReply settings r (Some id) reply) c.kept is))

  pub text_listed : (start : Option (List ℕ)) → start ≡ option_copied settings.rule → (judged : Option ℕ)
      → IsChecked text start notes rules judged → OpenedStates settings reported (rules_of rules) judged input out reply
      → TextStates text settings input out reply
  text_listed start given judged c is =
      subst (λ o. TextStates text settings input o reply) (sym (is.0 ∙ same))
      (listed_as judged (subst (λ g. IsChecked text g notes rules judged) given c) is.1)

-- a text that has a fault
pub unread_states : (text : List ℕ) (settings : ListSettings) (input : Input) (fault : ReadFault) → IsFaultOf text fault
    → TextStates text settings input [] (stopped (unread fault))
unread_states text settings input (Syntax line) is = faulty {fault = Syntax line} is (λ e. cc e)
unread_states text settings input (Depth line) is = faulty {fault = Depth line} is (λ e. cc e)
unread_states text settings input (CodePredicate line) is = faulty {fault = CodePredicate line} is (λ e. cc e)
unread_states text settings input TooLong is = faulty {fault = TooLong} is (λ e. cc e)
unread_states text settings input Memory is = no_memory
unread_states text settings input (NumberTooLarge line) is = faulty {fault = NumberTooLarge line} is (λ e. cc e)
