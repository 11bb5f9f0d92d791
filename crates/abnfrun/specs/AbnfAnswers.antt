-- What is stated for the text of a grammar in ABNF, settings and an input.
use Rattle.std.specs.Prelude.{◌≡◌, ◌≢◌, ℕ, true, List, []}
use Rattle.ruletable.specs.Notes.{Said}
use Rattle.ruletable.specs.declared.fault.ReadFault.{ReadFault}
use Rattle.ruletable.specs.declared.fault.ReadFault.TheVariants.{Memory}
use Rattle.abnfexplain.specs.AbnfAllFaults.{ExplainsAll}
use Rattle.abnfrun.specs.AbnfExplainedNotes.{ExplainsAbnfNote}
use Rattle.abnfread.specs.AbnfReading.{Reads, IsFaultOf}
use Rattle.abnfread.specs.Element.{Definition}
use Rattle.abnfprint.specs.AbnfReadBack.{file_rules}
use Rattle.abnfrun.specs.AbnfNoted.{all_rules, judged_of, AreNotesOn, IsRefusedFor, AreAgain, rule_given}
use Rattle.abnfrun.specs.AbnfReply.{printed_rules, JudgeReply}
use Rattle.abnfrun.specs.AbnfTextHints.{AreTextHints}
use Rattle.toolrun.specs.Explained.{Explained}
use Rattle.toolrun.specs.Input.{Input}
use Rattle.toolrun.specs.Reply.{Reply, notes_alone, refusal, unexplained_fault, without_memory}
use Rattle.toolrun.specs.ReportedNotes.{CutNotes, HintedNotes, ReportedNotes}
use Rattle.toolrun.specs.declared.settings.Mode.TheVariants.{Run, Check, Print}
use Rattle.abnfrun.specs.AbnfSettings.{AbnfSettings}

-- what is stated for a grammar's text and an input: the notes, each explained and with hints after them if that is
-- asked, and what follows them
pub data AbnfStates (text : List ℕ) (settings : AbnfSettings) (input : Input) : List ℕ → Reply → Type 0 where
  -- the text has a fault, which is reported, and explained if that is asked
  refused : (fault : ReadFault) (why : List ℕ) → IsFaultOf text fault → fault ≢ Memory
      → Explained settings (ExplainsAll text fault) why → AbnfStates text settings input [] (refusal fault why)
  -- its fault is reported, and an allocation failed in explaining it
  unexplained : (fault : ReadFault) → IsFaultOf text fault → fault ≢ Memory → settings.explain ≡ true
      → AbnfStates text settings input [] (unexplained_fault fault)
  -- the text is a grammar that notes reject
  noted : (definitions : List Definition) (notes : List Said) (reported : List ℕ) → Reads text definitions
      → AreNotesOn definitions (rule_given settings) notes
      → HintedNotes settings (ExplainsAbnfNote text) (AreTextHints text settings) notes reported →
      IsRefusedFor definitions (rule_given settings) → settings.mode ≢ Print
      → AbnfStates text settings input reported (notes_alone 2)
  -- it is a grammar that no note rejects, and no more is asked
  checked : (definitions : List Definition) (notes : List Said) (reported : List ℕ) → Reads text definitions
      → AreNotesOn definitions (rule_given settings) notes
      → HintedNotes settings (ExplainsAbnfNote text) (AreTextHints text settings) notes reported →
      (IsRefusedFor definitions (rule_given settings) → ⊥) → settings.mode ≡ Check
      → AbnfStates text settings input reported (notes_alone 0)
  -- the lines of the input are judged by its judged rule
  judges : (definitions : List Definition) (notes : List Said) (reported : List ℕ) (stated : Reply)
      → Reads text definitions → AreNotesOn definitions (rule_given settings) notes
      → HintedNotes settings (ExplainsAbnfNote text) (AreTextHints text settings) notes reported →
      (IsRefusedFor definitions (rule_given settings) → ⊥) → settings.mode ≡ Run →
      JudgeReply (all_rules definitions) (judged_of definitions (rule_given settings)) settings input stated
      → AbnfStates text settings input reported stated
  -- an allocation failed in explaining its notes: the first of them are written
  cut_notes : (definitions : List Definition) (notes : List Said) (reported : List ℕ) → Reads text definitions
      → AreNotesOn definitions (rule_given settings) notes → CutNotes settings (ExplainsAbnfNote text) notes reported
      → settings.mode ≢ Print → AbnfStates text settings input reported (without_memory [] 0)
  -- it is only to be printed, but defines a rule again
  again : (definitions : List Definition) (notes : List Said) (reported : List ℕ) → Reads text definitions
      → AreAgain definitions notes → ReportedNotes settings (ExplainsAbnfNote text) notes reported → notes ≢ []
      → settings.mode ≡ Print → AbnfStates text settings input reported (notes_alone 2)
  -- an allocation failed in explaining that
  cut_again : (definitions : List Definition) (notes : List Said) (reported : List ℕ) → Reads text definitions
      → AreAgain definitions notes → CutNotes settings (ExplainsAbnfNote text) notes reported → settings.mode ≡ Print
      → AbnfStates text settings input reported (without_memory [] 0)
  -- it is only to be printed, and defines no rule again
  printed : (definitions : List Definition) → Reads text definitions → AreAgain definitions [] → settings.mode ≡ Print →
      AbnfStates text settings input [] (printed_rules (file_rules definitions))
  -- an allocation failed in reading or checking the text, which is not too long
  no_memory : IsFaultOf text Memory → AbnfStates text settings input [] (without_memory [] 0)
