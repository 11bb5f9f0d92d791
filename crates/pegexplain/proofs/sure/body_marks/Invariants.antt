use Rattle.std.proofs.Common.{◌≡◌, false, map, take, get_or}
use Rattle.pegexplain.proofs.sure.body_marks.Given as goal

abbrev pub invariant-loop-body : goal.invariant-loop-body
invariant-loop-body l = l.found.items ≡ map (λ m. get_or l.marks m false) (take l.body-index l.bodies)
