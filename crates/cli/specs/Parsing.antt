-- What a parse of the words comes to.
use Rattle.std.specs.Prelude.{◌≡◌, ◌≢◌, ℕ, List, [], Result, MatchResult}
use Rattle.clap.specs.Built.{IsParsedFrom}
use Rattle.clap.specs.Words.{App, HasKind, IsAmong, Kinds, Text, app_of, fault_of, found_of, matches_of, rows_of}
use Rattle.clap.specs.declared.builder.command.Command.{Command}
use Rattle.clap.specs.declared.error.Error.{Error}
use Rattle.clap.specs.declared.error.kind.ErrorKind.{ErrorKind}
use Rattle.clap.specs.declared.error.kind.ErrorKind.TheVariants.{DisplayHelp, DisplayVersion}
use Rattle.clap.specs.declared.parser.matches.ArgMatches.{ArgMatches}
use Rattle.cli.specs.declared.reading.Unready.{Unready}
use Rattle.cli.specs.declared.reading.Unready.TheVariants.{NoMemory as NoRoom, Unreadable, Words}
use Rattle.toolrun.specs.Input.{Input}
use Rattle.toolrun.specs.Plan.{stopped}
use Rattle.toolrun.specs.Reply.{Reply, text_alone}
use Rattle.toolrun.specs.declared.status.Status.TheVariants.{Refused}
use Rattle.toolrun.specs.declared.stop.Stop.TheVariants.{NoMemory, Quiet}

-- Words in which nothing is wrong are matched as the command says, unless an allocation fails; of others the error says
-- what is wrong, or that help was asked for.
abbrev pub Parses : App → List Text → Result ArgMatches Error → Type 0
Parses app words r = MatchResult r (λ m. (fault_of app words ≡ []) × (rows_of (found_of m) ≡ matches_of app words))
    (HasKind (fault_of app words))

-- the matches come from words that such a command parsed
abbrev pub IsParsedBy : (App → Type 0) → ArgMatches → Type 0
IsParsedBy IsApp m = (app : App) × IsApp app × (c : Command) × (app_of c ≡ app) × IsParsedFrom c m

-- the words have these faults, or else no fault, and the grammar was not read
abbrev pub IsUnready : Kinds → Unready → Type 0
IsUnready kinds (Words error) = HasKind kinds error
IsUnready kinds Unreadable = kinds ≡ []
IsUnready kinds NoRoom = kinds ≡ []

-- no help and no version is asked for by this
abbrev pub IsNoHelp : ErrorKind → Type 0
IsNoHelp kind = (kind ≢ DisplayHelp) × (kind ≢ DisplayVersion)

-- this text alone is written, on the output
abbrev pub IsTextAlone : List ℕ → Input → List ℕ → Reply → Type 0
IsTextAlone text input notes reply = (notes ≡ []) × (reply ≡ text_alone text)

-- What is stated for words that have one of these faults: a text on the error output says what is wrong; or the help
-- that was asked for stands on the output; or an allocation failed. No clause says which text it is.
pub data WordsState (kinds : Kinds) (input : Input) : List ℕ → Reply → Type 0 where
  says_fault : (kind : ErrorKind) (text : List ℕ) → IsAmong kind kinds → IsNoHelp kind
      → WordsState kinds input text (stopped (Quiet Refused))
  shows_help : (kind : ErrorKind) (text : List ℕ) → IsAmong kind kinds → (IsNoHelp kind → ⊥)
      → WordsState kinds input [] (text_alone text)
  has_no_room : WordsState kinds input [] (stopped NoMemory)
