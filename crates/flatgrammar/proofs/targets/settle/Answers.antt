use Rattle.std.proofs.Common.{refl}
use Rattle.flatgrammar.proofs.WalkLemmas as o
use Rattle.flatgrammar.proofs.targets.settle.Goals as goal

pub set_all-requires : goal.set_all-requires
set_all-requires c = rw c.deref.ensures.value (o.path_there c.in_ok-s.ensures.walk)

pub returns : goal.returns
returns c = o.is_settled _ c.in_ok-s.ensures.walk c.in_ok-s.ensures.found refl
    (rw c.deref.ensures.value at c.set_all.ensures)
