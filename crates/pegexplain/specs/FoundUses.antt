-- A use that the code found. It serves private helpers alone.
use Rattle.pegexplain.specs.LeftUses.{NameUse}
use Rattle.pegexplain.specs.declared.left_uses.Use.{Use}

-- what the code's use stands for
abbrev pub use_found : Use → NameUse
use_found u = record { name = u.name.now; is_left = u.is_left }
