-- What is stated for a grammar's text, settings and an input.
use Rattle.std.specs.Prelude.{◌≡◌, ◌≢◌, ℕ, true, false, List, []}
use Rattle.ruletable.specs.Notes.{Said}
use Rattle.ruletable.specs.declared.fault.ReadFault.{ReadFault}
use Rattle.ruletable.specs.declared.fault.ReadFault.TheVariants.{Memory}
use Rattle.pegread.specs.Definitions.{firsts}
use Rattle.pegread.specs.Pattern.{Rule}
use Rattle.pegread.specs.Reading.{Reads, IsFaultOf}
use Rattle.pegprint.specs.PegAllFaults.{ExplainsAll}
use Rattle.pegexplain.specs.PegNotes.{ExplainsNote}
use Rattle.pegexplain.specs.PegHints.{ArePegHints}
use Rattle.gramcheck.specs.Checked.{is_refused, IsStart}
use Rattle.toolrun.specs.Explained.{Explained}
use Rattle.toolrun.specs.Input.{Input}
use Rattle.pegrun.specs.Noted.{AreNotesOn, AreAgain, start_given}
use Rattle.pegrun.specs.PegReply.{printed_text, RunStates}
use Rattle.toolrun.specs.Reply.{Reply, notes_alone, refusal, unexplained_fault, without_memory}
use Rattle.toolrun.specs.ReportedNotes.{CutNotes, HintedNotes, ReportedNotes}
use Rattle.toolrun.specs.declared.settings.Mode.TheVariants.{Run, Check, Print}
use Rattle.pegrun.specs.PegSettings.{PegSettings}

-- what is stated for a grammar's text and an input: the notes, each explained and with hints after them if that is
-- asked, and what follows them
pub data States (text : List ℕ) (settings : PegSettings) (input : Input) : List ℕ → Reply → Type 0 where
  -- the text has a fault, which is reported, and explained if that is asked
  refused : (fault : ReadFault) (why : List ℕ) → IsFaultOf text fault → fault ≢ Memory
      → Explained settings (ExplainsAll text fault) why → States text settings input [] (refusal fault why)
  -- its fault is reported, and an allocation failed in explaining it
  unexplained : (fault : ReadFault) → IsFaultOf text fault → fault ≢ Memory → settings.explain ≡ true
      → States text settings input [] (unexplained_fault fault)
  -- the text is a grammar that a note rejects
  noted : (definitions : List Rule) (notes : List Said) (reported : List ℕ) → Reads text definitions
      → AreNotesOn definitions (start_given settings) notes
      → HintedNotes settings (ExplainsNote text) (ArePegHints text) notes reported →
      is_refused notes ≡ true → settings.mode ≢ Print → States text settings input reported (notes_alone 2)
  -- it is a grammar that no note rejects, and no more is asked
  checked : (definitions : List Rule) (notes : List Said) (reported : List ℕ) → Reads text definitions
      → AreNotesOn definitions (start_given settings) notes
      → HintedNotes settings (ExplainsNote text) (ArePegHints text) notes reported →
      is_refused notes ≡ false → settings.mode ≡ Check → States text settings input reported (notes_alone 0)
  -- its start rule is run on the input
  runs : (definitions : List Rule) (notes : List Said) (reported : List ℕ) (start : ℕ) (stated : Reply)
      → Reads text definitions → AreNotesOn definitions (start_given settings) notes
      → HintedNotes settings (ExplainsNote text) (ArePegHints text) notes reported → is_refused notes ≡ false
      → settings.mode ≡ Run
      → IsStart (start_given settings) (firsts [] definitions) start →
      RunStates (firsts [] definitions) start settings input stated → States text settings input reported stated
  -- an allocation failed in explaining its notes: the first of them are reported
  cut_notes : (definitions : List Rule) (notes : List Said) (reported : List ℕ) → Reads text definitions
      → AreNotesOn definitions (start_given settings) notes → CutNotes settings (ExplainsNote text) notes reported
      → settings.mode ≢ Print → States text settings input reported (without_memory [] 0)
  -- it is only to be printed, but defines a rule again
  again : (definitions : List Rule) (notes : List Said) (reported : List ℕ) → Reads text definitions
      → AreAgain definitions notes → ReportedNotes settings (ExplainsNote text) notes reported → notes ≢ []
      → settings.mode ≡ Print → States text settings input reported (notes_alone 2)
  -- an allocation failed in explaining that
  cut_again : (definitions : List Rule) (notes : List Said) (reported : List ℕ) → Reads text definitions
      → AreAgain definitions notes → CutNotes settings (ExplainsNote text) notes reported → settings.mode ≡ Print
      → States text settings input reported (without_memory [] 0)
  -- it is only to be printed, and defines no rule again
  printed : (definitions : List Rule) → Reads text definitions → AreAgain definitions [] → settings.mode ≡ Print
      → States text settings input [] (printed_text definitions)
  -- an allocation failed in reading or checking the text, which is not too long
  no_memory : IsFaultOf text Memory → States text settings input [] (without_memory [] 0)
