-- What the program states where nothing is wrong with its words.
use Rattle.std.specs.Prelude.{◌≡◌, ⊤, ℕ, ◌≤◌, Bool, List, [], ◌++◌, Option, Some, None, codes, length, map}
use Rattle.std.specs.List.{All, Contains}
use Rattle.clap.specs.Words.{Row, Text}
use Rattle.abnftexts.specs.JoinRun.{JoinStates}
use Rattle.abnftexts.specs.RulesGathered.{NamedText}
use Rattle.abnftexts.specs.declared.joined.JoinForm.{JoinForm}
use Rattle.abnfx.specs.JoinWords.{explains_asked, form_asked, lists_asked, paths_asked}
use Rattle.rfcforms.specs.declared.lists.written.ListForm.{ListForm}
use Rattle.abnfx.specs.declared.texts.Unread.{Unread}
use Rattle.abnfx.specs.declared.texts.Unread.TheVariants.{Unreadable, TooLong, NoMemory}
use Rattle.toolrun.specs.Input.{Input}
use Rattle.toolrun.specs.Plan.{stopped}
use Rattle.toolrun.specs.Reply.{Reply}
use Rattle.toolrun.specs.declared.status.Status.TheVariants as status
use Rattle.toolrun.specs.declared.stop.Stop.{Stop}
use Rattle.toolrun.specs.declared.stop.Stop.TheVariants as stop

-- the texts have these paths for names, in order, and none is longer than a text may be
pub record AreTextsOf (paths : List Text) (texts : List NamedText) : Type 0 where
  pub names : map (λ t. t.name) texts ≡ paths
  pub lengths : All (λ t. length t.bytes ≤ 16777216) texts

-- the report where a text cannot be read
abbrev pub unread_text : Unread → List ℕ
unread_text (Unreadable path) = codes "cannot read " ++ path.now ++ codes "\n"
unread_text (TooLong path) = path.now ++ codes " longer than 16777216 bytes\n"
unread_text NoMemory = []

-- how the program stops then
abbrev pub unread_stop : Unread → Stop
unread_stop (Unreadable path) = stop.Quiet status.Fault
unread_stop (TooLong path) = stop.Quiet status.Overlong
unread_stop NoMemory = stop.NoMemory

-- a text among these cannot be read, or an allocation failed
abbrev pub IsUnreadOf : List Text → Unread → Type 0
IsUnreadOf paths (Unreadable path) = Contains paths path.now
IsUnreadOf paths (TooLong path) = Contains paths path.now
IsUnreadOf paths NoMemory = ⊤

-- What is stated for the files of these paths: what is stated for their texts. No clause can say which text a file
-- holds. Or one cannot be read.
pub data FilesJoined (paths : List Text) (lists : Option ListForm) (form : JoinForm) (explains : Bool) (input : Input)
    : List ℕ → Reply → Type 0 where
  joins : {texts : List NamedText} {notes : List ℕ} {reply : Reply} → AreTextsOf paths texts
      → JoinStates texts lists form explains input notes reply
      → FilesJoined paths lists form explains input notes reply
  unread : (why : Unread) → IsUnreadOf paths why → FilesJoined paths lists form explains input (unread_text why)
      (stopped (unread_stop why))
  no_memory : FilesJoined paths lists form explains input [] (stopped stop.NoMemory)

-- the report of words that ask for two forms
abbrev pub both_forms : List ℕ
both_forms = codes "error: the argument '-l' cannot be used with '-c'\n\nUsage: abnfx [OPTIONS] <TEXT>...\n\n"
    ++ codes "For more information, try '--help'.\n"

abbrev pub both_lists : List ℕ
both_lists = codes "error: the argument '--expand' cannot be used with '--expand-send'\n\n"
    ++ codes "Usage: abnfx [OPTIONS] <TEXT>...\n\nFor more information, try '--help'.\n"

-- What is stated for the matches of the words: two forms at once are rejected, and the files are not read.
pub data JoinAnswers (rows : List Row) (input : Input) : List ℕ → Reply → Type 0 where
  asks : {form : JoinForm} {lists : Option ListForm} {notes : List ℕ} {reply : Reply}
      → form_asked rows ≡ Some form → lists_asked rows ≡ Some lists
      → FilesJoined (paths_asked rows) lists form (explains_asked rows) input notes reply
      → JoinAnswers rows input notes reply
  two_lists : {form : JoinForm} → form_asked rows ≡ Some form → lists_asked rows ≡ None
      → JoinAnswers rows input both_lists (stopped (stop.Quiet status.Refused))
  both : form_asked rows ≡ None → JoinAnswers rows input both_forms (stopped (stop.Quiet status.Refused))
  no_memory : JoinAnswers rows input [] (stopped stop.NoMemory)
