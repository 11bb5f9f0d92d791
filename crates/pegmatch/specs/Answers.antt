-- What a matcher answers for a window of the input.
use Rattle.std.specs.Prelude.{◌≡◌, ℕ, ◌<◌, ◌≤◌, Bool, true, List, length, Option, Result, Ok, Err}
use Rattle.std.specs.Io.KnownBytes.{Appends, Keeps}
use Rattle.ruletable.specs.Writing.{AppendsPart}
use Rattle.pegread.specs.PegViews.{rules_of}
use Rattle.gramcheck.specs.Grammar.{Grammar}
use Rattle.gramcheck.specs.Outcome.{Outcome, Fails, Takes, Event, RuleGives}
use Rattle.pegmatch.specs.declared.matcher.Unit.{Unit as UnitAnswer}
use Rattle.pegmatch.specs.declared.matcher.Unit.TheVariants.{Took, Failed, Need}
use Rattle.pegmatch.specs.declared.matcher.ReplayFault.{ReplayFault}
use Rattle.pegmatch.specs.declared.matcher.ReplayFault.TheVariants.{Memory, Write}

-- what the start rule gives at the front of x
abbrev pub StartGives : Grammar → List ℕ → Outcome → ℕ → Type 0
StartGives g x o k = RuleGives (rules_of g.rules) g.start x o k

-- The window was long enough: it is the whole rest, or its last byte was not compared.
abbrev pub WasEnough : List ℕ → Bool → ℕ → Type 0
WasEnough window more looked = more ≡ true → looked < length window

-- A success with its events, a failure, or an evaluation that compares the last byte of a window that more bytes
-- follow. `Holds` says which events the matcher holds.
abbrev pub IsAnswer : Grammar → List ℕ → Bool → (List Event → Type 0) → UnitAnswer → Type 0
IsAnswer g window more Holds (Took end begun) =
    (events : List Event) × (looked : ℕ) × StartGives g window (Takes end events) looked × WasEnough window more looked
    × Holds events × (1 ≤ begun)
IsAnswer g window more Holds (Failed begun) =
    (looked : ℕ) × StartGives g window Fails looked × WasEnough window more looked × (1 ≤ begun)
IsAnswer g window more Holds Need =
    (more ≡ true) × ((o : Outcome) × StartGives g window o (length window))

-- The count of a matcher's matches stops at the greatest number of 128 bits. A run asks for fewer.
abbrev pub most_matches : ℕ
most_matches = 340282366920938463463374607431768211455

-- the matcher holds the events of a success for this grammar and window
abbrev pub HoldsSuccess : Grammar → List ℕ → (List Event → Type 0) → Type 0
HoldsSuccess g window Holds = (events : List Event) × (end looked : ℕ) × StartGives g window (Takes end events) looked
    × Holds events

-- the text is written; or nothing is, if an allocation fails; or a prefix of it, if the writer fails
abbrev pub Replays : {A : Type 0} → Option (List ℕ) → Option (List ℕ) → Bool → Bool → List ℕ → Result A ReplayFault
    → Type 0
Replays old new failed failed' text (Ok r) = Appends old new text × (failed' ≡ failed)
Replays old new failed failed' text (Err Memory) = Keeps old new × (failed' ≡ failed)
Replays old new failed failed' text (Err Write) = AppendsPart old new text × (failed' ≡ true)
