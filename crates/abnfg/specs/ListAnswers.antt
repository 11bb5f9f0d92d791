-- What the program states where nothing is wrong with its words.
use Rattle.std.specs.Prelude.{◌≡◌, ◌≢◌, ℕ, List, [], Option, None, Some, option_copied}
use Rattle.abnfg.specs.ListWords.{AskLines}
use Rattle.abnfg.specs.ListedLines.{LinesReply, end_of, record_text}
use Rattle.abnfg.specs.ListModes.{AreExplained, AreFirstAsked, AreWholeAsked}
use Rattle.abnfg.specs.declared.lines.ListSettings.{ListSettings}
use Rattle.abnfread.specs.AbnfReading.{IsFaultOf, Reads}
use Rattle.abnfread.specs.Element.{Definition, Rule}
use Rattle.abnfrun.specs.AbnfNoted.{AreNotesOn, IsRefusedFor, all_rules, judged_of}
use Rattle.clap.specs.Words.{Row}
use Rattle.ruletable.specs.Notes.{Said}
use Rattle.ruletable.specs.declared.fault.ReadFault.{ReadFault}
use Rattle.ruletable.specs.declared.fault.ReadFault.TheVariants.{Memory}
use Rattle.toolrun.specs.Input.{Input}
use Rattle.toolrun.specs.NotesText.{notes_text}
use Rattle.toolrun.specs.Plan.{stopped}
use Rattle.toolrun.specs.Reply.{Reply}
use Rattle.toolrun.specs.declared.status.Status.TheVariants.{Refused}
use Rattle.toolrun.specs.declared.stop.Stop.TheVariants as stop

-- what is stated after the notes: the lines of the judged rule; or nothing, and the rules are rejected
abbrev pub JudgedReply : ListSettings → List Rule → Option ℕ → Reply → Type 0
JudgedReply settings rules None reply = reply ≡ stopped (stop.Quiet Refused)
JudgedReply settings rules (Some id) reply = LinesReply (AreFirstAsked settings rules id)
    (AreWholeAsked settings rules id) (AreExplained settings rules id)
    (record_text settings.letters (end_of settings.nul)) settings.count reply

-- the text of the notes comes first
abbrev pub OpenedStates : ListSettings → List ℕ → List Rule → Option ℕ → Input → List ℕ → Reply → Type 0
OpenedStates settings reported rules judged input notes reply = (notes ≡ reported)
    × JudgedReply settings rules judged reply

-- What is stated for a grammar's text: its fault; or the notes on it, and it is rejected for them; or the notes, and
-- then the first lines of the mode. Or an allocation fails.
pub data TextStates (text : List ℕ) (settings : ListSettings) (input : Input) : List ℕ → Reply → Type 0 where
  faulty : {fault : ReadFault} → IsFaultOf text fault → fault ≢ Memory
      → TextStates text settings input [] (stopped (stop.Refused fault))
  rejected : {definitions : List Definition} {notes : List Said} → Reads text definitions
      → AreNotesOn definitions (option_copied settings.rule) notes
      → IsRefusedFor definitions (option_copied settings.rule)
      → TextStates text settings input (notes_text notes) (stopped (stop.Quiet Refused))
  lists : {definitions : List Definition} {notes : List Said} {reply : Reply} → Reads text definitions
      → AreNotesOn definitions (option_copied settings.rule) notes
      → (IsRefusedFor definitions (option_copied settings.rule) → ⊥)
      → JudgedReply settings (all_rules definitions) (Some (judged_of definitions (option_copied settings.rule))) reply
      → TextStates text settings input (notes_text notes) reply
  no_memory : TextStates text settings input [] (stopped stop.NoMemory)

-- What is stated for the matches of the words: what they ask for of the text of a file. No clause can say which text a
-- file holds. Or it cannot be read, or an allocation fails.
pub data ListAnswers (rows : List Row) (input : Input) : List ℕ → Reply → Type 0 where
  lists_text : (text : List ℕ) (settings : ListSettings) {notes : List ℕ} {reply : Reply} → AskLines rows settings
      → TextStates text settings input notes reply → ListAnswers rows input notes reply
  unreadable : ListAnswers rows input [] (stopped stop.Unreadable)
  unroomed : ListAnswers rows input [] (stopped stop.NoMemory)
