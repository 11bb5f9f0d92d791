use Rattle.std.proofs.Common.{◌≡◌, map, take}
use Rattle.diagnostics.specs.NumberLists.{items_at}
use Rattle.diagnostics.proofs.noteplaces.number_lists.items_at.Given as goal

abbrev pub invariant-loop-position : goal.invariant-loop-position
invariant-loop-position g l = map (λ x. x.now) l.found.items ≡ items_at l.items (take l.position-index l.indexes)
