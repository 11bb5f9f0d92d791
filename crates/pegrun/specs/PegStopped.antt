-- What a run has written when it stops, before its messages.
use Rattle.std.specs.Prelude.{◌≡◌, ℕ, ◌≤◌, ◌++◌, List, Option, Result, Ok, Err}
use Rattle.std.specs.Io.KnownBytes.{Appends}
use Rattle.ruletable.specs.Writing.{AppendsPart}
use Rattle.ruletable.specs.declared.sink.WriteFault.{WriteFault}
use Rattle.pegread.specs.Pattern.{Rule}
use Rattle.toolrun.specs.Input.{Input}
use Rattle.pegrun.specs.StopsExplained.{MayLack, ReportsNothing, WhyStopped}
use Rattle.pegrun.specs.Units.{IsUnit, Units, Ends, taken_at}
use Rattle.pegrun.specs.PegSettings.{PegSettings}
use Rattle.toolrun.specs.RunSteps.{EndsReported}
use Rattle.toolrun.specs.declared.ending.Ending.{Ending}

-- After so many bytes were taken: the text of units and of a last one of no bytes, after which the run ends so, with
-- what explains that if it is asked, or an allocation fails; or a prefix of the text of units.
abbrev pub IsCut : List Rule → ℕ → PegSettings → Input → ℕ → Option (List ℕ) → Option (List ℕ)
    → Result Ending WriteFault → Type 0
IsCut rules start settings input taken old new (Ok ending) = (position : ℕ) × (text last : List ℕ) ×
    Units rules start settings input position text × Appends old new (text ++ last)
    × (taken ≡ taken_at settings input position) ×
    EndsReported (Units rules start settings input) (Ends rules start settings input)
    (taken_at settings input) ReportsNothing
    (WhyStopped rules start settings input) (MayLack rules start settings input) position last ending
IsCut rules start settings input taken old new (Err fault) = (position k : ℕ) × (text last : List ℕ) ×
    Units rules start settings input position text × IsUnit rules start settings input position k last
    × AppendsPart old new (text ++ last) × (taken ≤ taken_at settings input position)
