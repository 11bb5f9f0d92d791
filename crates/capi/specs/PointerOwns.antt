-- What the pointer of a box owns.
use Rattle.std.specs.Prelude.{Option, Some, None}
use Rattle.std_alloc.specs.Box.Ownership.{box_owns}
use base.Fml.{Fml, ftrue}
use denote.RattleType.{RattleType}
use denote.RawPtr.{Ptr}
use mir.Syntax.{Ty}

-- the box of this value, or nothing
abbrev pub pointer_owns : (Ty → Ptr → Fml) → (R : RattleType) → Ptr → Option R.Denot → Fml
pointer_owns holds R p (Some x) = box_owns holds R p x
pointer_owns holds R p None = ftrue
