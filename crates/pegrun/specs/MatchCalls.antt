-- How many matches a run asks its matcher for.
use Rattle.std.specs.Prelude.{ℕ, ◌+◌, ◌*◌, ◌≤◌, if◌then◌else◌, List}
use Rattle.pegread.specs.Pattern.{Rule}
use Rattle.toolrun.specs.Input.{Input}
use Rattle.pegrun.specs.Units.{Units, runs_at_lines, unit_count}
use Rattle.pegrun.specs.PegSettings.{PegSettings}
use Rattle.pegrun.specs.declared.attempt.CountedMatcher.{CountedMatcher}

-- the matches that its matcher was asked for since that was made, by the matcher's own count
abbrev pub calls_of : {M : Type 0} → (M → ℕ) → CountedMatcher M → ℕ
calls_of matches m = matches m.matcher

-- a unit is tried at no more line feeds
abbrev pub most_tries : ℕ
most_tries = 89

-- The most matches for a unit: two, and if units are run at line feeds two for each try.
abbrev pub matches_for : PegSettings → ℕ
matches_for settings = if runs_at_lines settings then 2 + 2 * most_tries else 2

-- A run that took so many bytes asked for at most as many matches for each unit in them, and where it stopped.
pub record HasFewCalls (rules : List Rule) (start : ℕ) (settings : PegSettings) (input : Input) (taken was calls : ℕ)
    : Type 0 where
  -- where the run stopped
  pub position : ℕ
  pub within : position ≤ taken
  pub text : List ℕ
  pub units : Units rules start settings input position text
  pub few : calls ≤ was + matches_for settings * (unit_count rules start settings input units + 1)
