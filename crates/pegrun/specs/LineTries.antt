-- What came of the line feeds that were read.
use Rattle.std.specs.Prelude.{◌≡◌, ℕ, ⊤, Bool, List, ◌++◌, length, Option, Result, Ok, Err}
use Rattle.ruletable.specs.Writing.{Flags}
use Rattle.ruletable.specs.declared.sink.WriteFault.{WriteFault}
use Rattle.feed.specs.Feed.{IsHeld, bytes_of, flow_of}
use Rattle.feed.specs.declared.feed.Feed.{Feed}
use Rattle.feed.specs.declared.held.Held.{Held}
use Rattle.gramcheck.specs.Grammar.{Grammar}
use Rattle.pegread.specs.PegViews.{rules_of}
use Rattle.toolrun.specs.Agrees.{Agrees}
use Rattle.toolrun.specs.Input.{Input}
use Rattle.pegrun.specs.Attempts.{HasTaken, IsStep, StaysWithin}
use Rattle.pegrun.specs.LineReads.{ReadsForUnit}
use Rattle.pegrun.specs.PegSettings.{PegSettings}
use Rattle.pegrun.specs.declared.line_unit.LineTry.{LineTry}
use Rattle.pegrun.specs.declared.line_unit.LineTry.TheVariants.{Ran, Waits}
use Rattle.pegrun.specs.declared.unit.UnitStep.{UnitStep}
use Rattle.pegrun.specs.declared.unit.UnitStep.TheVariants.{Takes, Stops}

-- where the run stops, no more can be read; else nothing was read
abbrev pub IsReadFor : {R : Type 0} → Result UnitStep WriteFault → Feed R → Feed R → Type 0
IsReadFor (Ok (Stops why)) old new = (held : Held) × IsHeld new held
IsReadFor (Ok (Takes n)) old new = new ≡ old
IsReadFor (Err fault) old new = new ≡ old

-- a step follows that of each input of which so much has been seen, or the unit waits, and nothing was written
abbrev pub HasRun : {R : Type 0} → Grammar → PegSettings → ℕ → Feed R → Option (List ℕ) → Option (List ℕ) → LineTry
    → Type 0
HasRun g settings s feed old new (Ran step) = (before : List ℕ) (input : Input) → length before ≡ s
    → Agrees (before ++ bytes_of feed) (flow_of feed) input
    → IsStep (rules_of g.rules) g.start settings input s old new step
    × HasTaken settings input s (length (before ++ bytes_of feed)) step
HasRun g settings s feed old new (Waits held) = IsHeld feed held × (new ≡ old)

-- a unit that was run takes some of the bytes that are there
abbrev pub IsTriedWithin : ℕ → ℕ → LineTry → Type 0
IsTriedWithin len s (Ran step) = StaysWithin len s step
IsTriedWithin len s (Waits held) = ⊤

-- where the unit waits, the writer has not failed
abbrev pub TriedFlags : Bool → Bool → LineTry → Type 0
TriedFlags old new (Ran step) = Flags old new step
TriedFlags old new (Waits held) = new ≡ old

-- what was read before a unit of which text was written
abbrev pub IsReadForUnit : Grammar → List ℕ → List ℕ → Result UnitStep WriteFault → Type 0
IsReadForUnit g old new (Ok (Stops why)) = ⊤
IsReadForUnit g old new (Ok (Takes k)) = (n : ℕ) × ReadsForUnit g old n new
IsReadForUnit g old new (Err fault) = (n : ℕ) × ReadsForUnit g old n new

-- what was read before it, or before it waits
abbrev pub HasTriedReads : Grammar → List ℕ → List ℕ → LineTry → Type 0
HasTriedReads g old new (Ran step) = IsReadForUnit g old new step
HasTriedReads g old new (Waits held) = (n : ℕ) × ReadsForUnit g old n new
