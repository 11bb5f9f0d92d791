-- The runs of a program whose words name several files, one after another.
use Prim.Native.Char.{code}
use Rattle.std.specs.Prelude.{◌≡◌, ◌≤◌, ◌<◌, ◌⊎◌, ◌++◌, ◌∷◌, ◌&&◌, ◌||◌, ◌==◌, ℕ, Bool, true, false, not, List, []}
use Rattle.std.specs.Prelude.{Option, Some, codes, drop, if◌then◌else◌, length, max, option_map, take}
use Rattle.std.specs.Io.KnownBytes.{Appends}
use Rattle.std.specs.Str.{bytes_eq}
use Rattle.clap.specs.Words.{Row, Text, first_of}
use Rattle.cli.specs.Asked.{Ask, files_in, format_named, is_text, mode_named}
use Rattle.cli.specs.Inputs.{InputlessStates, IsUnopened, are_shared}
use Rattle.cli.specs.declared.input.Inputless.{Inputless}
use Rattle.cli.specs.declared.held.Manner.{Manner}
use Rattle.cli.specs.declared.held.Origin.{Origin}
use Rattle.cli.specs.declared.settings.Asked.{Asked}
use Rattle.cli.specs.declared.settings.Format.{Format}
use Rattle.cli.specs.declared.settings.Format.TheVariants as format
use Rattle.findings.specs.MessageFindings.{findings_text}
use Rattle.findings.specs.declared.messages.Syntax.{Syntax}
use Rattle.toolrun.specs.Delivery.{IsReported, greatest_met}
use Rattle.toolrun.specs.Input.{Input}
use Rattle.toolrun.specs.Reply.{Reply}
use Rattle.toolrun.specs.Right.{RunIsRight}
use Rattle.toolrun.specs.Stop.{message_of}
use Rattle.toolrun.specs.Stream.{Stream, no_input}
use Rattle.toolrun.specs.declared.settings.Mode.{Mode}
use Rattle.toolrun.specs.declared.settings.Mode.TheVariants.{Check, Print, Run}
use Rattle.toolrun.specs.declared.settings.Settings.{Settings}
use Rattle.toolrun.specs.declared.stop.Stop.TheVariants.{NoMemory, Unreadable}

-- the name before a byte: a colon and a space follow it at the front of a line that no space begins
abbrev pub name_before : Text → Bool → ℕ → List ℕ
name_before name starts b = if starts && not (b == code " ") then name ++ codes ": " else []

-- a text with the name before each line that no space begins; `starts` says whether a line begins at its front
unfoldable pub lines_named : Text → Bool → List ℕ → List ℕ
lines_named name starts [] = []
lines_named name starts (b ∷ rest) = name_before name starts b ++ b ∷ lines_named name (b == 10) rest

-- the messages of a run without those on its grammar, where these come first
abbrev pub own_messages : List ℕ → List ℕ → List ℕ
own_messages first all = if bytes_eq (take (length first) all) first then drop (length first) all else all

-- the text was written, or a prefix of it where the writer failed
abbrev pub IsReportedText : List ℕ → Stream → Type 0
IsReportedText text err = (part : List ℕ) × Appends err.old err.new part × IsReported err.failed part text

-- how messages on a grammar or an input are written: by the name of its file, and the text of the grammar, which counts
-- as empty for an input
abbrev pub Manners : Type 0
Manners = Text → List ℕ → List ℕ → List ℕ

-- with the name before each line that no space begins, or as findings, where that name is given for the start rule
abbrev pub writes_in : Syntax → Option Text → Format → Manners
writes_in syntax start format.Text = λ name grammar messages. lines_named name true messages
writes_in syntax start (format.Findings form) = findings_text form syntax start

-- as the code asks for it
abbrev pub writes_as : Manner → Manners
writes_as m = writes_in m.syntax (option_map (λ s. s.now) m.start) m.format

abbrev pub writes_from : Origin → List ℕ → List ℕ
writes_from origin = writes_as origin.manner origin.name.now origin.text.now

-- These messages were written so, after a run of that status; or an allocation failed.
abbrev pub IsReportAs : (List ℕ → List ℕ) → List ℕ → ℕ → Stream → ℕ → Type 0
IsReportAs written messages status err code =
    (IsReportedText (written messages) err × (code ≡ greatest_met status false err.failed))
    ⊎ (IsReportedText (message_of NoMemory) err × (code ≡ 5))

-- an allocation failed before all else
abbrev pub HasNoMemory : Stream → Stream → ℕ → Type 0
HasNoMemory out err code =
    (out.new ≡ out.old) × (out.failed ≡ out.was) × IsReportedText (message_of NoMemory) err × (code ≡ 5)

-- A run whose messages were held, and written after it, but for the first ones.
pub record IsHeldRun (States : Input → List ℕ → Reply → Type 0) (first : List ℕ) (written : List ℕ → List ℕ)
    (messages : List ℕ)
    (reader out err : Stream) (code : ℕ) : Type 0 where
  pub held_all : Bool
  pub status : ℕ
  pub right : RunIsRight States reader out
      (record { old = Some []; new = Some messages; was = false; failed = not held_all }) status
  pub reported : IsReportAs written (own_messages first messages) status err code

-- The run on the input of that name; or that file could not be opened. No clause can say what a file holds.
abbrev pub IsInputRun : Manners → (Input → List ℕ → Reply → Type 0) → List ℕ → Text → Stream → Stream → ℕ → Type 0
IsInputRun Writes States first name out err code =
    ((messages : List ℕ) × (reader : Stream) × IsHeldRun States first (Writes name []) messages reader out err code)
    ⊎ ((why : Inputless) × IsUnopened name why × RunIsRight (InputlessStates why) no_input out err code)

-- The run on a grammar, which the file of that name holds, without an input; or that file could not be read.
abbrev pub HasRunGrammar : Manners → (List ℕ → Input → List ℕ → Reply → Type 0) → Text → List ℕ → List ℕ → Stream
    → Stream → ℕ → Type 0
HasRunGrammar Writes States name grammar messages out err code =
    ((reader : Stream) × (reader.old ≡ Some [])
    × IsHeldRun (States grammar) [] (Writes name grammar) messages reader out err code)
    ⊎ ((out.new ≡ out.old) × (out.failed ≡ out.was) × IsReportAs (Writes name []) (message_of Unreadable) 4 err code)

-- so it was for some grammar
abbrev pub IsGrammarRun : Manners → (List ℕ → Input → List ℕ → Reply → Type 0) → Text → Stream → Stream → ℕ → Type 0
IsGrammarRun Writes States name out err code =
    (grammar messages : List ℕ) × HasRunGrammar Writes States name grammar messages out err code

-- two calls, one after the other
abbrev pub both_calls : Stream → Stream → Stream
both_calls one two = record { old = one.old; new = two.new; was = one.was; failed = two.failed }

-- The runs on these names, in order, each as Runs says. The status is the greatest one.
pub data RunsInOrder (Runs : Text → Stream → Stream → ℕ → Type 0) : List Text → Stream → Stream → ℕ → Type 0 where
  none : (out err : Stream) → out.new ≡ out.old → err.new ≡ err.old → RunsInOrder Runs [] out err 0
  more : (names : List Text) (name : Text) (out out_next err err_next : Stream) (code next : ℕ)
      → RunsInOrder Runs names out err code → Runs name out_next err_next next
      → out.new ≡ out_next.old → err.new ≡ err_next.old
      → RunsInOrder Runs (names ++ name ∷ []) (both_calls out out_next) (both_calls err err_next) (max code next)

-- All of them have run; or the rest is left out, since a writer failed, or a status is 4 or 5.
abbrev pub AllRun : (Text → Stream → Stream → ℕ → Type 0) → List Text → Stream → Stream → ℕ → Type 0
AllRun Runs names out err code = (ran rest : List Text) × (names ≡ ran ++ rest) × RunsInOrder Runs ran out err code
    × ((rest ≡ []) ⊎ ((4 ≤ code) ⊎ ((out.failed ≡ true) ⊎ (err.failed ≡ true))))

-- these are the settings, but for the mode and the name of the input
abbrev pub IsInMode : {O : Type 0} → Mode → Settings O → Settings O → Type 0
IsInMode mode settings new = (new.mode ≡ mode) × (new.limit ≡ settings.limit) × (new.start ≡ settings.start)
    × (new.explain ≡ settings.explain) × (new.options ≡ settings.options)

-- the run of a grammar on the input of that name, with these settings but for that name
abbrev pub IsRunOnInput : {O : Type 0} → Manners → (List ℕ → Settings O → Input → List ℕ → Reply → Type 0) → List ℕ
    → Settings O → List ℕ → Text → Stream → Stream → ℕ → Type 0
IsRunOnInput {O = O} Writes States grammar settings first name out err code =
    (named : Settings O) × IsInMode settings.mode settings named × (named.input.now ≡ name)
    × IsInputRun Writes (States grammar named) first name out err code

-- The grammar is checked, and its messages are written once. Where nothing rejects it, it is run on the inputs of these
-- names.
pub data HasRunOnInputs {O : Type 0} (Writes : Manners)
    (States : List ℕ → Settings O → Input → List ℕ → Reply → Type 0)
    (settings : Settings O) (path : Text) (names : List Text) : Stream → Stream → ℕ → Type 0 where
  rejected : (checks : Settings O) (grammar first : List ℕ) (out err : Stream) (code : ℕ)
      → IsInMode Check settings checks → HasRunGrammar Writes (λ g. States g checks) path grammar first out err code
      → (0 < code) ⊎ ((out.failed ≡ true) ⊎ (err.failed ≡ true))
      → HasRunOnInputs Writes States settings path names out err code
  runs : (checks judges : Settings O) (grammar first : List ℕ) (out out_next err err_next : Stream) (code : ℕ)
      → IsInMode Check settings checks → HasRunGrammar Writes (λ g. States g checks) path grammar first out err 0
      → IsInMode Run settings judges
      → AllRun (IsRunOnInput Writes States grammar judges first) names out_next err_next code
      → out.new ≡ out_next.old → err.new ≡ err_next.old
      → HasRunOnInputs Writes States settings path names (both_calls out out_next) (both_calls err err_next) code

-- the inputs of these names; standard input where there is no name
abbrev pub inputs_of : List Text → List Text
inputs_of [] = codes "-" ∷ []
inputs_of (name ∷ names) = name ∷ names

-- What is done where the words name several files: inputs of a run, or else grammars.
abbrev pub HasRunFiles : {O : Type 0} → Manners → (List ℕ → Settings O → Input → List ℕ → Reply → Type 0) → Mode
    → Settings O → Text → List Text → Stream → Stream → ℕ → Type 0
HasRunFiles Writes States Run settings path names out err code =
    HasRunOnInputs Writes States settings path (inputs_of names) out err code
HasRunFiles Writes States Check settings path names out err code =
    AllRun (IsGrammarRun Writes (λ g. States g settings)) (path ∷ names) out err code
HasRunFiles Writes States Print settings path names out err code =
    AllRun (IsGrammarRun Writes (λ g. States g settings)) (path ∷ names) out err code

-- few files are named: one at most for a run, and none else
abbrev pub AreFew : Mode → List Text → Type 0
AreFew Run names = length names ≤ 1
AreFew Check names = names ≡ []
AreFew Print names = names ≡ []

-- messages are lines of text, or standard input is named for this grammar and this file
abbrev pub is_plain : Format → Mode → Option Text → Option Text → Bool
is_plain format mode grammar file = is_text format || are_shared mode grammar file

-- so few are named by words that ask for lines of text, or whose run has no input
abbrev pub AreFewAsked : List Row → Type 0
AreFewAsked rows = AreFew (mode_named (first_of (codes "mode") rows)) (files_in rows)
    × (is_plain (format_named (first_of (codes "format") rows)) (mode_named (first_of (codes "mode") rows))
    (first_of (codes "grammar") rows) (first_of (codes "file") rows) ≡ true)

-- how messages are written that words ask for
abbrev pub writes_asked : {O : Type 0} → Syntax → Asked O → Manners
writes_asked syntax asked = writes_in syntax (option_map (λ s. s.now) asked.settings.start) asked.format

-- What is done where nothing is wrong with the words, and they name several files, or ask for findings; or an
-- allocation failed.
abbrev pub HasRunSeveral : {O : Type 0} → Syntax → (List Row → O → Type 0)
    → (List ℕ → Settings O → Input → List ℕ → Reply → Type 0) → List Row → Stream → Stream → ℕ → Type 0
HasRunSeveral {O = O} syntax Asks States rows out err code = ((asked : Asked O) × Ask Asks rows asked
    × HasRunFiles (writes_asked syntax asked) States asked.settings.mode asked.settings asked.path.now (files_in rows)
    out err code)
    ⊎ HasNoMemory out err code
