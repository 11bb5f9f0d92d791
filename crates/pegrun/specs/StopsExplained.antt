-- What explains how a run ends.
use Rattle.std.specs.Prelude.{◌≡◌, ℕ, ◌+◌, ◌<◌, ⊤, true, List, [], take, Option, Some, None}
use Rattle.pegread.specs.Pattern.{Rule}
use Rattle.matchfailure.specs.NoMatchLines.{long_unit_lines}
use Rattle.matchfailure.specs.NoMatches.{IsNoMatchReported}
use Rattle.matchfailure.specs.InputPositions.{position_after}
use Rattle.pegrun.specs.Units.{IsUnit, Units, taken_at}
use Rattle.toolrun.specs.Explained.{Explained}
use Rattle.toolrun.specs.Input.{Input}
use Rattle.pegrun.specs.PegSettings.{PegSettings}
use Rattle.toolrun.specs.declared.stop.Stop.{Stop}
use Rattle.toolrun.specs.declared.stop.Stop.TheVariants.{Quiet, NoMatch, LongUnit, LongLine, Broken, NoMemory, Refused}
use Rattle.toolrun.specs.declared.stop.Stop.TheVariants.{CostlyUnit, CostlyLine, Unreadable}

-- lines explain such a stop
abbrev pub HasLines : Stop → Type 0
HasLines (Quiet status) = ⊥
HasLines (NoMatch at) = ⊤
HasLines (LongUnit at limit) = ⊤
HasLines (CostlyUnit at budget) = ⊥
HasLines (LongLine line limit) = ⊥
HasLines (CostlyLine line budget) = ⊥
HasLines Broken = ⊥
HasLines NoMemory = ⊥
HasLines (Refused fault) = ⊥
HasLines Unreadable = ⊥

-- such a run writes nothing before its message
abbrev pub ReportsNothing : ℕ → List ℕ → Type 0
ReportsNothing position reported = reported ≡ []

module _ (rules : List Rule) (start : ℕ) (settings : PegSettings) (input : Input) where
  -- the position of the unit before the one that is begun at s, or none where no unit is before it
  pub data UnitBefore : ℕ → Option ℕ → Type 0 where
    none_before : UnitBefore 0 None
    one_before : (s k : ℕ) (text last : List ℕ) → Units rules start settings input s text
        → IsUnit rules start settings input s k last → 0 < k → UnitBefore (s + k) (Some s)

  -- The lines that explain a stop at s: where no unit goes on, by what is taken of the input, and where the unit is too
  -- long, by where it begins. Others have none.
  abbrev pub StopLines : ℕ → Stop → List ℕ → Type 0
  StopLines s (Quiet status) why = why ≡ []
  StopLines s (NoMatch at) why = (before : Option ℕ) × UnitBefore s before
      × IsNoMatchReported rules start (take (taken_at settings input s) input.bytes) before s why
  StopLines s (LongUnit at limit) why = why ≡ long_unit_lines (position_after (take s input.bytes))
  StopLines s (CostlyUnit at budget) why = why ≡ []
  StopLines s (LongLine line limit) why = why ≡ []
  StopLines s (CostlyLine line budget) why = why ≡ []
  StopLines s Broken why = why ≡ []
  StopLines s NoMemory why = why ≡ []
  StopLines s (Refused fault) why = why ≡ []
  StopLines s Unreadable why = why ≡ []

  -- what explains a stop at s, if that is asked
  abbrev pub WhyStopped : ℕ → Stop → List ℕ → Type 0
  WhyStopped s stop why = Explained settings (StopLines s stop) why

  -- an allocation may fail in explaining it
  abbrev pub MayLack : ℕ → Stop → Type 0
  MayLack s stop = (settings.explain ≡ true) × HasLines stop
