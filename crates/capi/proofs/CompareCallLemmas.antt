-- The grammars that are compared, and what is laid into the buffers of C.
-- Serves: compare
use Rattle.std.proofs.Common.{◌≡◌, ◌∙◌, ℕ, List, [], ◌∷◌, ap, refl}
use Rattle.std.specs.Prelude.{Option, Some, None}
use Rattle.abnfcheck.specs.AbnfGrammar.{Grammar}
use Rattle.abnfread.specs.AbnfViews.{rules_of}
use Rattle.abnfread.specs.declared.elem.Elem.{Elem}
use Rattle.abnfrun.specs.AbnfExplainedNotes.{ExplainsAbnfNote}
use Rattle.abnfrun.specs.AbnfLanguage.{IsChecked}
use Rattle.abnfrun.specs.AbnfNoted.{rule_given}
use Rattle.abnfrun.specs.AbnfSettings.{AbnfSettings}
use Rattle.abnfrun.specs.AbnfTextHints.{AreTextHints}
use Rattle.capi.specs.CompareCall.{asked_for}
use Rattle.capi.specs.GrammarsCompared.{HoldsRules, IsGrammarOpening, IsOpenGrammar, opened_code}
use Rattle.capi.specs.OpenCall.{opens, refuses}
use Rattle.capi.specs.declared.asked.CSettings.{CSettings}
use Rattle.ruletable.specs.Notes.{Said}
use Rattle.ruletable.specs.Rules as table
use Rattle.toolrun.specs.ReportedNotes.{HintedNotes}

-- the letters of one side are those that C asks for
pub letters_are_kept : (asked : CSettings) (name : List ℕ) → (asked_for asked name).letters ≡ asked.letters
letters_are_kept asked [] = refl
letters_are_kept asked (c ∷ name) = refl

module _ (text : List ℕ) (settings : AbnfSettings) (notes : List Said) where
  -- the grammar of rules that were checked
  pub checked_is_open : (rules : table.Rules Elem) (judged : Option ℕ) (grammar : Option Grammar)
      → IsChecked text (rule_given settings) notes rules judged → HoldsRules rules judged grammar
      → IsOpenGrammar text settings notes grammar
  checked_is_open rules None None is made = record {
    definitions = is.definitions;
    reads = is.reads;
    are_notes = is.are_notes;
    ready = is.ready;
  }
  checked_is_open rules None (Some g) is made = absurd (cc made)
  checked_is_open rules (Some id) None is made = absurd made
  checked_is_open rules (Some id) (Some g) is made = record {
    definitions = is.definitions;
    reads = is.reads;
    are_notes = is.are_notes;
    ready = (is.ready.0, ap rules_of made.0 ∙ is.kept, made.1 ∙ is.ready.1);
  }

  -- the messages on it are its notes
  pub notes_are_reported : (reported : List ℕ) (grammar : Option Grammar) → IsOpenGrammar text settings notes grammar
      → HintedNotes settings (ExplainsAbnfNote text) (AreTextHints text settings) notes reported
      → IsGrammarOpening text settings reported grammar (opened_code grammar)
  notes_are_reported reported None is hinted = refuses notes reported is hinted
  notes_are_reported reported (Some g) is hinted = opens notes reported g is hinted
