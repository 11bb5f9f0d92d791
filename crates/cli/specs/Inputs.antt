-- Which input the words of a command line ask for.
use Rattle.std.specs.Prelude.{⊤, ◌≡◌, ◌&&◌, ℕ, Bool, true, false, List, [], ◌++◌, Option, Some, None, codes}
use Rattle.std.specs.Prelude.{if◌then◌else◌}
use Rattle.std.specs.Str.{bytes_eq}
use Rattle.clap.specs.Words.{App, Kinds, Row, Text, fault_of, first_of, matches_of}
use Rattle.cli.specs.Asked.{mode_named}
use Rattle.cli.specs.declared.input.Inputless.{Inputless}
use Rattle.cli.specs.declared.input.Inputless.TheVariants as inputless
use Rattle.cli.specs.declared.input.Input.{Input}
use Rattle.cli.specs.declared.input.Input.TheVariants.{Empty, Standard, Named}
use Rattle.toolrun.specs.Input.{Input as Bytes}
use Rattle.toolrun.specs.Plan.{IsReportedAnd, stopped}
use Rattle.toolrun.specs.Reply.{Reply}
use Rattle.toolrun.specs.declared.status.Status.TheVariants.{Fault, Refused}
use Rattle.toolrun.specs.declared.settings.Mode.{Mode}
use Rattle.toolrun.specs.declared.settings.Mode.TheVariants.{Check, Print, Run}
use Rattle.toolrun.specs.declared.stop.Stop.TheVariants.{NoMemory, Quiet}

-- the file that words name in which nothing is wrong; `-` names none
abbrev pub file_in : Kinds → Option Text → Option Text
file_in [] (Some name) = if bytes_eq name (codes "-") then None else Some name
file_in _ _ = None

-- the file that words name for the input, where nothing is wrong with them
abbrev pub file_of : App → List Text → Option Text
file_of app words = file_in (fault_of app words) (first_of (codes "file") (matches_of app words))

-- the name of standard input
abbrev pub is_standard : Text → Bool
is_standard name = bytes_eq name (codes "-")

-- In this mode an input is read.
abbrev pub reads_input : Mode → Bool
reads_input Run = true
reads_input Check = false
reads_input Print = false

-- the words of a run name standard input for the grammar, and name it or nothing for the input
abbrev pub are_shared : Mode → Option Text → Option Text → Bool
are_shared mode None file = false
are_shared mode (Some grammar) None = is_standard grammar && reads_input mode
are_shared mode (Some grammar) (Some file) = is_standard file && (is_standard grammar && reads_input mode)

-- words of a run, in which nothing is wrong, name standard input for both
abbrev pub shared_in : Kinds → List Row → Bool
shared_in [] rows =
    are_shared (mode_named (first_of (codes "mode") rows)) (first_of (codes "grammar") rows)
    (first_of (codes "file") rows)
shared_in _ rows = false

abbrev pub shared_of : App → List Text → Bool
shared_of app words = shared_in (fault_of app words) (matches_of app words)

-- the input is the standard one if no file is named, else a file that was opened
abbrev pub IsInputOf : {S F : Type 0} → S → Option Text → Input S F → Type 0
IsInputOf standard None input = input ≡ Standard standard
IsInputOf {F = F} standard (Some name) input = (file : F) × (input ≡ Named file)

-- the bytes that are still to come of an input
abbrev pub rest_of : {S F : Type 0} → (S → Option (List ℕ)) → (F → Option (List ℕ)) → Input S F → Option (List ℕ)
rest_of standard named (Standard reader) = standard reader
rest_of standard named (Named reader) = named reader
rest_of standard named Empty = Some []

-- What is stated where a file of that name cannot be opened: a text on the error output names it, or an allocation
-- failed. No clause says which reason the text gives.
pub data UnopenedStates (name : Text) (input : Bytes) : List ℕ → Reply → Type 0 where
  says_name : (reason : List ℕ) → UnopenedStates name input (codes "cannot read " ++ name ++ reason)
      (stopped (Quiet Fault))
  has_no_memory : UnopenedStates name input [] (stopped NoMemory)

-- what is stated for a program that has no input
abbrev pub InputlessStates : Inputless → Bytes → List ℕ → Reply → Type 0
InputlessStates (inputless.Unopened name fault) = UnopenedStates name.now
InputlessStates inputless.Shared =
    IsReportedAnd (codes "the grammar and the input are both standard input\n") (Quiet Refused)
InputlessStates inputless.NoMemory = UnopenedStates []

-- the input of that name is missing for this reason
abbrev pub IsUnopened : Text → Inputless → Type 0
IsUnopened name (inputless.Unopened file fault) = file.now ≡ name
IsUnopened name inputless.Shared = ⊥
IsUnopened name inputless.NoMemory = ⊤
