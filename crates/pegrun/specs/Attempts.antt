-- What one attempt at a unit comes to, and what it writes.
use Rattle.std.specs.Prelude.{◌≡◌, ◌≢◌, ℕ, zero, suc, ◌+◌, ◌<◌, ◌≤◌, ◌⊎◌, ◌==◌, ⊤, Bool, true, false, List, [], ◌∷◌}
use Rattle.std.specs.Prelude.{◌++◌, length, Option, Result, Ok, Err, Some, None, if◌then◌else◌}
use Rattle.std.specs.Io.KnownBytes.{Appends, Keeps}
use Rattle.ruletable.specs.Writing.{AppendsPart, Flags}
use Rattle.ruletable.specs.declared.sink.WriteFault.{WriteFault}
use Rattle.feed.specs.declared.held.Held.{Held}
use Rattle.feed.specs.declared.held.Held.TheVariants as held
use Rattle.pegread.specs.Pattern.{Rule}
use Rattle.gramcheck.specs.Grammar.{Grammar}
use Rattle.gramcheck.specs.Outcome.{Outcome, Fails, Takes, Event}
use Rattle.pegmatch.specs.Answers.{StartGives, WasEnough}
use Rattle.pegmatch.specs.Text.{text_of}
use Rattle.pegmatch.specs.declared.style.PrintStyle.{PrintStyle}
use Rattle.toolrun.specs.Input.{Input}
use Rattle.pegrun.specs.LineReads.{LooksPast}
use Rattle.pegrun.specs.Units.{IsUnit, IsWithin, Ends, runs_at_lines, taken_at}
use Rattle.pegrun.specs.PegSettings.{PegSettings}
use Rattle.pegrun.specs.declared.options.PegOptions.{PegOptions}
use Rattle.toolrun.specs.declared.stop.Stop.{Stop}
use Rattle.toolrun.specs.declared.status.Status.TheVariants.{Done}
use Rattle.toolrun.specs.declared.stop.Stop.TheVariants as stop
use Rattle.pegrun.specs.declared.attempt.Attempt.{Attempt}
use Rattle.pegrun.specs.declared.attempt.Attempt.TheVariants.{Printed, Failed, TooLong, Costly, NoMemory}
use Rattle.pegrun.specs.declared.unit.UnitStep.{UnitStep}
use Rattle.pegrun.specs.declared.unit.UnitStep.TheVariants.{Takes as Goes, Stops}

-- At the front of a window a success prints its text, of any length, and all else prints nothing, unless the writer
-- fails.
abbrev pub IsAttempt : Grammar → List ℕ → Bool → PrintStyle → Option (List ℕ) → Option (List ℕ)
    → Result Attempt WriteFault → Type 0
IsAttempt g window more style old new (Ok (Printed k)) = (events : List Event) × (looked : ℕ) ×
    StartGives g window (Takes k events) looked × WasEnough window more looked
    × Appends old new (text_of style window events)
IsAttempt g window more style old new (Ok Failed) =
    (looked : ℕ) × StartGives g window Fails looked × WasEnough window more looked × Keeps old new
IsAttempt g window more style old new (Ok TooLong) =
    (more ≡ true) × ((o : Outcome) × StartGives g window o (length window)) × Keeps old new
IsAttempt g window more style old new (Ok (Costly budget)) = ⊥
IsAttempt g window more style old new (Ok NoMemory) = Keeps old new
IsAttempt g window more style old new (Err fault) = (k : ℕ) × (events : List Event) × (looked : ℕ) ×
    StartGives g window (Takes k events) looked × WasEnough window more looked
    × AppendsPart old new (text_of style window events)

-- likewise with the options' budget: a longer text is not printed
abbrev pub IsLimited : Grammar → List ℕ → Bool → PegOptions → Option (List ℕ) → Option (List ℕ)
    → Result Attempt WriteFault → Type 0
IsLimited g window more options old new (Ok (Printed k)) = (events : List Event) × (looked : ℕ) ×
    StartGives g window (Takes k events) looked × WasEnough window more looked
    × IsWithin options.budget (text_of options.style window events)
    × Appends old new (text_of options.style window events)
IsLimited g window more options old new (Ok Failed) =
    (looked : ℕ) × StartGives g window Fails looked × WasEnough window more looked × Keeps old new
IsLimited g window more options old new (Ok TooLong) =
    (more ≡ true) × ((o : Outcome) × StartGives g window o (length window)) × Keeps old new
IsLimited g window more options old new (Ok (Costly budget)) = (k : ℕ) × (events : List Event) × (looked : ℕ) ×
    StartGives g window (Takes k events) looked × WasEnough window more looked
    × (options.budget ≡ Some budget) × (budget < length (text_of options.style window events)) × Keeps old new
IsLimited g window more options old new (Ok NoMemory) = Keeps old new
IsLimited g window more options old new (Err fault) = (k : ℕ) × (events : List Event) × (looked : ℕ) ×
    StartGives g window (Takes k events) looked × WasEnough window more looked
    × IsWithin options.budget (text_of options.style window events)
    × AppendsPart old new (text_of options.style window events)

-- The result on the first piece of a window is that of the window. Without a result nothing is printed.
abbrev pub IsFrontAttempt : Grammar → List ℕ → Bool → PrintStyle → Option (List ℕ) → Option (List ℕ)
    → Option (Result Attempt WriteFault) → Type 0
IsFrontAttempt g window more style old new None = Keeps old new
IsFrontAttempt g window more style old new (Some attempted) = IsAttempt g window more style old new attempted

-- without an answer the writer has not failed
abbrev pub FrontFlags : {A E : Type 0} → Bool → Bool → Option (Result A E) → Type 0
FrontFlags old new None = new ≡ old
FrontFlags old new (Some attempted) = Flags old new attempted

-- how a run ends at a position where no unit goes on
abbrev pub stop_at : ℕ → ℕ → Stop
stop_at position len = if position == len then stop.Quiet Done else stop.NoMatch position

-- how a run ends at a position where the start rule fails: with `whole` the input must be a unit
abbrev pub failed_at : PegSettings → ℕ → ℕ → Stop
failed_at settings position len = if settings.options.whole then stop.NoMatch position else stop_at position len

-- what follows at a position where this came of the start rule
abbrev pub step_after : PegSettings → ℕ → ℕ → Result Attempt WriteFault → Result UnitStep WriteFault
step_after settings position len (Ok (Printed zero)) = Ok (Stops (stop_at position len))
step_after settings position len (Ok (Printed (suc n))) = Ok (Goes (suc n))
step_after settings position len (Ok Failed) = Ok (Stops (failed_at settings position len))
step_after settings position len (Ok TooLong) = Ok (Stops (stop.LongUnit position settings.limit))
step_after settings position len (Ok (Costly budget)) = Ok (Stops (stop.CostlyUnit position budget))
step_after settings position len (Ok NoMemory) = Ok (Stops stop.NoMemory)
step_after settings position len (Err fault) = Err fault

-- how a run ends at a position where no unit is tried, if it is held so
abbrev pub step_held : Held → ℕ → ℕ → UnitStep
step_held held.Fault position len = Stops stop.Broken
step_held _ position len = Stops (stop_at position len)

-- what follows at a position from which these bytes are held
abbrev pub IsStepOn : Grammar → List ℕ → Bool → PegSettings → ℕ → Option (List ℕ) → Option (List ℕ)
    → Result UnitStep WriteFault → Type 0
IsStepOn g items more settings s old new result = (attempted : Result Attempt WriteFault)
    × IsLimited g items more settings.options old new attempted ×
    (result ≡ step_after settings s (s + length items) attempted)

-- What follows at a position from which some bytes are held, whatever comes after them: the start rule looks at none of
-- that. Without an answer it does, and nothing is written.
abbrev pub IsSettledStep : Grammar → List ℕ → PegSettings → ℕ → Option (List ℕ) → Option (List ℕ)
    → Option (Result UnitStep WriteFault) → Type 0
IsSettledStep g items settings s old new None = LooksPast g items × (new ≡ old)
IsSettledStep g items settings s old new (Some result) = (attempted : Result Attempt WriteFault)
    × IsLimited g (items ++ 0 ∷ []) true settings.options old new attempted × (attempted ≢ Ok TooLong)
    × (result ≡ step_after settings s (s + length items) attempted)

-- A unit of some bytes was printed, or the run ends here and the text of its last unit was printed, or an allocation
-- failed and nothing was.
abbrev pub IsStep : List Rule → ℕ → PegSettings → Input → ℕ → Option (List ℕ) → Option (List ℕ)
    → Result UnitStep WriteFault
    → Type 0
IsStep rules start settings input s old new (Ok (Goes k)) =
    (text : List ℕ) × IsUnit rules start settings input s k text × Appends old new text × (0 < k)
IsStep rules start settings input s old new (Ok (Stops why)) =
    ((why ≡ stop.NoMemory) × Keeps old new) ⊎ ((last : List ℕ) × Ends rules start settings input s last why
    × Appends old new last)
IsStep rules start settings input s old new (Err fault) =
    (k : ℕ) × (text : List ℕ) × IsUnit rules start settings input s k text × AppendsPart old new text

-- How many bytes were taken when this follows at s. A run that stops has taken as many as a unit may look at; so has
-- one that goes on, if units are not run at line feeds.
abbrev pub HasTaken : PegSettings → Input → ℕ → ℕ → Result UnitStep WriteFault → Type 0
HasTaken settings input s taken (Ok (Stops why)) = taken ≡ taken_at settings input s
HasTaken settings input s taken _ = (taken ≤ taken_at settings input s)
    × (runs_at_lines settings ≡ false → taken ≡ taken_at settings input s)

-- a unit takes some of the bytes that are there
abbrev pub StaysWithin : ℕ → ℕ → Result UnitStep WriteFault → Type 0
StaysWithin len s (Ok (Goes k)) = (0 < k) × (s + k ≤ len)
StaysWithin len s _ = ⊤
