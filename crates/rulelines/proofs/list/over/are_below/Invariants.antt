use Rattle.std.proofs.Common.{◌≡◌, ◌<◌, ℕ}
use Rattle.std.specs.Prelude.{slice_get, Some}
use Rattle.rulelines.proofs.list.over.are_below.Given as goal

abbrev pub invariant-loop-next : goal.invariant-loop-next
invariant-loop-next l = (j t : ℕ) → j < l.next-index → slice_get l.row j ≡ Some t → t < l.end
