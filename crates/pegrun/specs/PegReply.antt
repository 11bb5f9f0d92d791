-- What a run of a grammar on an input states.
use Rattle.std.specs.Prelude.{ℕ, List, []}
use Rattle.pegprint.specs.Canon.{grammar_text}
use Rattle.pegread.specs.Definitions.{firsts}
use Rattle.pegread.specs.Pattern.{Rule}
use Rattle.pegrun.specs.StopsExplained.{MayLack, ReportsNothing, WhyStopped}
use Rattle.pegrun.specs.Units.{Units, Ends, taken_at}
use Rattle.toolrun.specs.Input.{Input}
use Rattle.toolrun.specs.Reply.{Reply, text_alone}
use Rattle.toolrun.specs.RunSteps as steps
use Rattle.pegrun.specs.PegSettings.{PegSettings}

-- the canonical text of the grammar is written, and nothing is taken
abbrev pub printed_text : List Rule → Reply
printed_text definitions = text_alone (grammar_text (firsts [] definitions))

-- the units of the input in turn, and how the run ends, which is not explained
abbrev pub PlainReplies : List Rule → ℕ → PegSettings → Input → Reply → Type 0
PlainReplies rules start settings input reply = steps.Replies (Units rules start settings input)
    (Ends rules start settings input) (taken_at settings input) reply

-- the units of the input in turn, how the run ends, and the lines that explain that, if it is asked
abbrev pub Replies : List Rule → ℕ → PegSettings → Input → Reply → Type 0
Replies rules start settings input reply = steps.RepliesReported (Units rules start settings input)
    (Ends rules start settings input) (taken_at settings input) ReportsNothing (WhyStopped rules start settings input)
    (MayLack rules start settings input) reply

-- A run states its reply, or the text of the first units if an allocation fails. If one fails in explaining how the run
-- ends, a line says so, but all that the run writes otherwise, and its status, are as ever.
abbrev pub RunStates : List Rule → ℕ → PegSettings → Input → Reply → Type 0
RunStates rules start settings input reply = steps.ReportedStates (Units rules start settings input)
    (Ends rules start settings input) (taken_at settings input) ReportsNothing (WhyStopped rules start settings input)
    (MayLack rules start settings input) reply
