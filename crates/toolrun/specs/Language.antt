-- How what a tool states follows from what its grammar language reads, checks, prints and runs.
use Rattle.std.specs.Prelude.{◌≡◌, ◌≢◌, ℕ, true, List, [], Option, Some, None, option_copied}
use Rattle.ruletable.specs.Notes.{Said}
use Rattle.ruletable.specs.declared.fault.ReadFault.{ReadFault}
use Rattle.ruletable.specs.declared.fault.ReadFault.TheVariants.{Memory}
use Rattle.toolrun.specs.Explained.{Explained}
use Rattle.toolrun.specs.Input.{Input}
use Rattle.toolrun.specs.Reply.{Reply, notes_alone, refusal, text_alone, unexplained_fault, without_memory}
use Rattle.toolrun.specs.ReportedNotes.{CutNotes, HintedNotes, ReportedNotes}
use Rattle.toolrun.specs.declared.settings.Mode.TheVariants.{Run, Check, Print}
use Rattle.toolrun.specs.declared.settings.Settings.{Settings}

-- States is what the tool states. Of a text: HasFault says what is wrong with it, Explains what explains that,
-- ExplainsNote what explains a note on its grammar, AreHints what else there is to say of that, IsRead what it is read
-- as, IsChecked what is noted of its grammar, IsReady what is ready to run, IsPrintable what is noted where it is only
-- to be printed. Of a grammar: canonical is its text, Runs what a run of it states.
pub record AreStated {Grammar CheckedRules Judged Sound Options : Type 0}
    (States : List ℕ → Settings Options → Input → List ℕ → Reply → Type 0)
    (HasFault : List ℕ → ReadFault → Type 0) (Explains : List ℕ → ReadFault → List ℕ → Type 0)
    (ExplainsNote : List ℕ → Option (List ℕ) → Said → List ℕ → Type 0)
    (AreHints : List ℕ → Settings Options → List ℕ → Type 0) (IsRead : List ℕ → Grammar → Type 0)
    (IsChecked : List ℕ → Option (List ℕ) → List Said → CheckedRules → Option Judged → Type 0)
    (IsReady : List ℕ → Option (List ℕ) → List Said → Sound → Type 0)
    (IsPrintable : List ℕ → Grammar → List Said → Type 0) (canonical : Grammar → List ℕ)
    (Runs : Sound → Settings Options → Input → Reply → Type 0) : Type 0 where
  -- a text that has a fault, which is reported, and explained if that is asked
  pub refused : (text : List ℕ) (settings : Settings Options) (input : Input) (fault : ReadFault) (why : List ℕ)
      → HasFault text fault → fault ≢ Memory → Explained settings (Explains text fault) why
      → States text settings input [] (refusal fault why)
  pub unexplained : (text : List ℕ) (settings : Settings Options) (input : Input) (fault : ReadFault)
      → HasFault text fault
      → fault ≢ Memory → settings.explain ≡ true → States text settings input [] (unexplained_fault fault)
  -- any allocation may fail in reading a text or after that
  pub within : (text : List ℕ) (grammar : Grammar) → IsRead text grammar → HasFault text Memory
  pub within_checked : (text : List ℕ) (start : Option (List ℕ)) (notes : List Said) (rules : CheckedRules)
      (judged : Option Judged) → IsChecked text start notes rules judged → HasFault text Memory
  pub no_memory : (text : List ℕ) (settings : Settings Options) (input : Input) → HasFault text Memory
      → States text settings input [] (without_memory [] 0)
  -- a grammar that is rejected
  pub noted : (text : List ℕ) (settings : Settings Options) (input : Input) (notes : List Said) (reported : List ℕ)
      (rules : CheckedRules) → IsChecked text (option_copied settings.start) notes rules None
      → HintedNotes settings (ExplainsNote text) (AreHints text settings) notes reported
      → settings.mode ≢ Print → States text settings input reported (notes_alone 2)
  -- a grammar that is not rejected, and only to be checked
  pub checked : (text : List ℕ) (settings : Settings Options) (input : Input) (notes : List Said) (reported : List ℕ)
      (rules : CheckedRules) (judged : Judged)
      → IsChecked text (option_copied settings.start) notes rules (Some judged)
      → HintedNotes settings (ExplainsNote text) (AreHints text settings) notes reported → settings.mode ≡ Check
      → States text settings input reported (notes_alone 0)
  -- a grammar that is run, and states something for each input
  pub run : (text : List ℕ) (settings : Settings Options) (input : Input) (notes : List Said) (reported : List ℕ)
      (sound : Sound) (reply : Reply) → IsReady text (option_copied settings.start) notes sound
      → HintedNotes settings (ExplainsNote text) (AreHints text settings) notes reported → settings.mode ≡ Run
      → Runs sound settings input reply
      → States text settings input reported reply
  pub replies : (text : List ℕ) (settings : Settings Options) (input : Input) (notes : List Said) (sound : Sound)
      → IsReady text (option_copied settings.start) notes sound
      → (reply : Reply) × Runs sound settings input reply
  -- a grammar on whose notes an allocation fails in explaining them
  pub cut_notes : (text : List ℕ) (settings : Settings Options) (input : Input) (notes : List Said) (reported : List ℕ)
      (rules : CheckedRules) (judged : Option Judged)
      → IsChecked text (option_copied settings.start) notes rules judged
      → CutNotes settings (ExplainsNote text) notes reported → settings.mode ≢ Print
      → States text settings input reported (without_memory [] 0)
  -- a grammar that is only to be printed, but defines a rule again
  pub again : (text : List ℕ) (settings : Settings Options) (input : Input) (grammar : Grammar) (notes : List Said)
      (reported : List ℕ) → IsPrintable text grammar notes → notes ≢ []
      → ReportedNotes settings (ExplainsNote text) notes reported
      → settings.mode ≡ Print → States text settings input reported (notes_alone 2)
  pub cut_again : (text : List ℕ) (settings : Settings Options) (input : Input) (grammar : Grammar) (notes : List Said)
      (reported : List ℕ) → IsPrintable text grammar notes → notes ≢ []
      → CutNotes settings (ExplainsNote text) notes reported
      → settings.mode ≡ Print → States text settings input reported (without_memory [] 0)
  -- a grammar that is only to be printed, and defines no rule again
  pub printed : (text : List ℕ) (settings : Settings Options) (input : Input) (grammar : Grammar)
      → IsPrintable text grammar []
      → settings.mode ≡ Print → States text settings input [] (text_alone (canonical grammar))
