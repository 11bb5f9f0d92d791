use Rattle.std.proofs.Common.{◌≡◌, Some, slice_get, subst, sym}
use Rattle.earleyitems.specs.EarleySets.{GoesOn}
use Rattle.earleyitems.proofs.RecordsLemmas.{waits_go}
use Rattle.earleyitems.proofs.sets.Sets.waiters.Goals as goal

pub returns : goal.returns
returns c k f is = subst (λ v. GoesOn f.waiters v) (sym c.deref.ensures.value)
    (waits_go c.self.inside.stores c.self.inside.bounds.items k f
    (subst (λ v. slice_get v k ≡ Some f) (sym c.self.view_is) is))
