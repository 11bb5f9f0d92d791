-- What the program states where nothing is wrong with its words.
use Rattle.std.specs.Prelude.{◌≡◌, ℕ, Bool, true, false, List, [], ◌++◌, Option, codes}
use Rattle.abnfd.specs.CompareWords.{all_asked, explain_asked, is_clash, new_rule_asked, old_rule_asked}
use Rattle.abnfd.specs.CompareWords.{is_shared, symbols_asked}
use Rattle.abnfd.specs.RulesByName.{IsAskedReport}
use Rattle.abnfd.specs.declared.files.UnreadFile.{UnreadFile}
use Rattle.abnfd.specs.declared.files.UnreadFile.TheVariants.{New, NoMemory, Old}
use Rattle.clap.specs.Words.{Row}
use Rattle.ruletable.specs.declared.alphabet.Alphabet.{Alphabet}
use Rattle.toolrun.specs.Input.{Input}
use Rattle.toolrun.specs.Plan.{stopped}
use Rattle.toolrun.specs.Reply.{Reply}
use Rattle.toolrun.specs.Status.{code_of}
use Rattle.toolrun.specs.Stop.{message_of}
use Rattle.toolrun.specs.declared.status.Status.{Status}
use Rattle.toolrun.specs.declared.status.Status.TheVariants.{Fault, Refused}
use Rattle.toolrun.specs.declared.stop.Stop.{Stop}
use Rattle.toolrun.specs.declared.stop.Stop.TheVariants as stop

-- this text alone is written on the output, with that status
abbrev pub answer_reply : List ℕ → Status → Reply
answer_reply text status = record { out = text; err = []; status = code_of status; taken = 0 }

-- the messages come first, and then the answer
abbrev pub IsWholeReport : List ℕ → List ℕ → Status → Input → List ℕ → Reply → Type 0
IsWholeReport reported text status input notes reply = (notes ≡ reported) × (reply ≡ answer_reply text status)

-- the message where the file of a grammar cannot be read; nothing where an allocation fails
abbrev pub missing_text : UnreadFile → List ℕ
missing_text Old = codes "old: " ++ message_of stop.Unreadable
missing_text New = codes "new: " ++ message_of stop.Unreadable
missing_text NoMemory = []

-- how the program stops then
abbrev pub missing_stop : UnreadFile → Stop
missing_stop Old = stop.Quiet Fault
missing_stop New = stop.Quiet Fault
missing_stop NoMemory = stop.NoMemory

-- the message where all rules are asked for, and one too
abbrev pub clash_text : List ℕ
clash_text = codes "error: the argument '-a' cannot be used with '-s' or '-t'\n\n"
    ++ codes "Usage: abnfd [OPTIONS] <OLD> <NEW>\n\nFor more information, try '--help'.\n"

-- the message where both grammars are standard input
abbrev pub shared_text : List ℕ
shared_text = codes "OLD and NEW are both standard input\n"

-- What is stated for the files of two grammars: the report on their texts. No clause can say which text a file holds.
-- Or one cannot be read, or an allocation failed.
pub data FilesCompared (all explain : Bool) (alphabet : Alphabet) (old_rule new_rule : Option (List ℕ)) (input : Input)
    : List ℕ → Reply → Type 0 where
  compares : {old new reported text : List ℕ} {status : Status}
      → IsAskedReport explain alphabet old_rule new_rule old new all reported text status
      → FilesCompared all explain alphabet old_rule new_rule input reported (answer_reply text status)
  unread : (why : UnreadFile) → FilesCompared all explain alphabet old_rule new_rule input (missing_text why)
      (stopped (missing_stop why))
  no_memory : FilesCompared all explain alphabet old_rule new_rule input [] (stopped stop.NoMemory)

-- What is stated for the matches of the words. They ask for all rules and for one, or name standard input twice, and
-- nothing is read; or they do not, and the files are compared. Or an allocation failed.
pub data CompareAnswers (rows : List Row) (input : Input) : List ℕ → Reply → Type 0 where
  clashes : is_clash (all_asked rows) (new_rule_asked rows) ≡ true
      → CompareAnswers rows input clash_text (stopped (stop.Quiet Refused))
  shares : is_clash (all_asked rows) (new_rule_asked rows) ≡ false → is_shared rows ≡ true
      → CompareAnswers rows input shared_text (stopped (stop.Quiet Refused))
  compares_files : {notes : List ℕ} {reply : Reply} → is_clash (all_asked rows) (new_rule_asked rows) ≡ false
      → is_shared rows ≡ false
      → FilesCompared (all_asked rows) (explain_asked rows) (symbols_asked rows) (old_rule_asked rows)
      (new_rule_asked rows) input notes reply → CompareAnswers rows input notes reply
  unroomed : CompareAnswers rows input [] (stopped stop.NoMemory)
