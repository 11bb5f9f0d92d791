use Rattle.std.proofs.Common.{subst, Contains}
use Rattle.fixpoint.proofs.AtLemmas as s
use Rattle.fixpoint.proofs.cycles.Search.close.Goals as goal
use Rattle.fixpoint.proofs.cycles.Search.close.Goals.{then-these-gt1, else-these-gt1}

pub mark-requires : goal.mark-requires
mark-requires c = λ m h.
    let d = c.deref.ensures.value in
    let v = c.deref_mut.ensures.value in
    let lt = c.requires.marks m (subst (λ v. Contains v m) d (s.in_rest _ _ _ m h)) in
    rw v lt

pub finish-requires : goal.finish-requires
finish-requires c = λ m h.
    let d = c.deref.ensures.value in
    let v = c.deref_mut-2.ensures.value in
    let lt = c.requires.positions m (subst (λ v. Contains v m) d (s.in_rest _ _ _ m h)) in
    rw v lt

pub set_all-requires : goal.set_all-requires
set_all-requires c = λ m h.
    let d = c.deref.ensures.value in
    let v = c.deref_mut-3.ensures.value in
    let lt = c.requires.ranks m (subst (λ v. Contains v m) d (s.in_rest _ _ _ m h)) in
    rw v lt
