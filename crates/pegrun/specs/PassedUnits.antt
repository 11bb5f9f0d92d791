-- The result of printing units of one byte from the table.
use Rattle.std.specs.Prelude.{◌≡◌, ℕ, ◌+◌, ◌-◌, ◌≤◌, ◌++◌, List, [], length, Option, Result, Ok, Err}
use Rattle.std.specs.Io.KnownBytes.{Appends, Consumes}
use Rattle.ruletable.specs.Writing.{AppendsPart}
use Rattle.ruletable.specs.declared.sink.WriteFault.{WriteFault}
use Rattle.feed.specs.Feed.{allowance_of, bytes_of, capacity_of, flow_of, reader_of}
use Rattle.feed.specs.declared.feed.Feed.{Feed}
use Rattle.feed.specs.declared.held.Held.{Held}
use Rattle.feed.specs.declared.held.Held.TheVariants.{Full, End, Fault}
use Rattle.gramcheck.specs.Grammar.{Grammar}
use Rattle.pegread.specs.Pattern.{Rule}
use Rattle.pegread.specs.PegViews.{rules_of}
use Rattle.toolrun.specs.Agrees.{Agrees}
use Rattle.toolrun.specs.Input.{Input}
use Rattle.toolrun.specs.declared.stop.Stop.TheVariants as stop
use Rattle.pegrun.specs.ByteUnits.{AreByteUnits}
use Rattle.pegrun.specs.PegSettings.{PegSettings}
use Rattle.pegrun.specs.Units.{Ends, IsUnit, Units, taken_at, unit_count}
use Rattle.pegrun.specs.declared.byte_units.ByteUnits.{ByteUnits}
use Rattle.pegrun.specs.declared.passed.Passed.{Passed}
use Rattle.pegrun.specs.declared.passed.Passed.TheVariants.{Broken, Units as Passes}

-- n units of one byte from position s on print this text
abbrev pub GoesOn : List Rule → ℕ → PegSettings → Input → ℕ → ℕ → List ℕ → Type 0
GoesOn rules start settings input s n text = (before : List ℕ) (units : Units rules start settings input s before)
    → (later : Units rules start settings input (s + n) (before ++ text))
    × (unit_count rules start settings input later ≡ unit_count rules start settings input units + n)

-- After this many bytes were read: the units from s on and their text; or those before a fault of the reader; or a
-- prefix of their text, if the writer fails.
abbrev pub HasComeTo : List Rule → ℕ → PegSettings → Input → ℕ → ℕ → Option (List ℕ) → Option (List ℕ)
    → Result Passed WriteFault → Type 0
HasComeTo rules start settings input s taken old new (Ok (Passes n)) = (text : List ℕ)
    × GoesOn rules start settings input s n text × Appends old new text
HasComeTo rules start settings input s taken old new (Ok Broken) = (n : ℕ) × (text : List ℕ)
    × GoesOn rules start settings input s n text × Appends old new text
    × Ends rules start settings input (s + n) [] stop.Broken × (taken ≡ taken_at settings input (s + n))
HasComeTo rules start settings input s taken old new (Err fault) = (n : ℕ) × (text last : List ℕ)
    × GoesOn rules start settings input s n text × IsUnit rules start settings input (s + n) 1 last
    × AppendsPart old new (text ++ last) × (taken ≤ taken_at settings input (s + n))

-- How many of `count` units of one byte may be run, if `held` bytes are left from the start of the last one on. After a
-- fault of the reader a unit needs limit + 1 bytes from its start on.
abbrev pub can_run : Held → ℕ → ℕ → ℕ → ℕ
can_run Full count held limit = count
can_run End count held limit = count
can_run Fault count held limit = (count - 1 + held) - limit

-- one byte is dropped for each unit
abbrev pub IsGone : List ℕ → Result Passed WriteFault → Type 0
IsGone gone (Ok (Passes n)) = length gone ≡ n
IsGone gone _ = Unit {0}

-- A feed dropped its first bytes, and read more.
pub record HasPassed {R : Type 0} (remaining : R → Option (List ℕ)) (units : ByteUnits) (settings : PegSettings)
    (old new : Feed R) (was is : Option (List ℕ)) (result : Result Passed WriteFault) : Type 0 where
  -- the bytes dropped, and the bytes read
  pub gone : List ℕ
  pub more : List ℕ
  pub bytes : bytes_of old ++ more ≡ gone ++ bytes_of new
  pub gives : Consumes (remaining (reader_of old)) (remaining (reader_of new)) more
  pub allowance : allowance_of new + length more ≡ allowance_of old
  pub capacity : capacity_of new ≡ capacity_of old
  pub count : IsGone gone result
  -- for each input that agrees with the bytes read
  pub earlier : (before : List ℕ) (input : Input) → Agrees (before ++ (bytes_of old ++ more)) (flow_of new) input
      → Agrees (before ++ bytes_of old) (flow_of old) input
  pub follows : (g : Grammar) (before : List ℕ) (input : Input) → AreByteUnits g settings.options.style units
      → Agrees (before ++ (bytes_of old ++ more)) (flow_of new) input
      → HasComeTo (rules_of g.rules) g.start settings input (length before)
      (length (before ++ (bytes_of old ++ more))) was is result
