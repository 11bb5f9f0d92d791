-- The one of two units whose farthest failure is reported.
use Rattle.std.specs.Prelude.{ℕ, nat_lt, Option, Some, None, if◌then◌else◌}
use Rattle.matchfailure.specs.declared.farthest.reported.LastUnit.{LastUnit}
use Rattle.matchfailure.specs.declared.farthest.reported.LastUnit.TheVariants.{Last, Before}

-- of the one whose failing byte stands farther in the input, of the last if both stand at one byte or have none
abbrev pub reported_unit_of : (before last : Option ℕ) → LastUnit
reported_unit_of None last = Last
reported_unit_of (Some b) None = Before
reported_unit_of (Some b) (Some l) = if nat_lt l b then Before else Last
