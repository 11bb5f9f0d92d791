use Rattle.std.proofs.Common.{◌≡◌, ℕ, Some, sym, subst, slice_get}
use Rattle.flatgrammar.specs.Positions.{In}
use Rattle.earleyitems.specs.ItemSets.{Adds}
use Rattle.earleyitems.proofs.AddsLemmas.{adds_none, adds_one}
use Rattle.earleyitems.proofs.AreBucketsLemmas.{get_in}
use Rattle.earleyitems.proofs.predictions.Predictions.add.Goals as goal

pub invariant_of-self : goal.invariant_of-self
invariant_of-self c i h e = c.in_err-make_room-in-None.ensures.kept h i (c.self.invariant i h e)

pub push-requires-clause-table : goal.push-requires-clause-table
push-requires-clause-table c i h e = subst (λ v. slice_get v h ≡ Some i) (sym c.deref_mut.ensures.value)
    (c.in_ok-make_room-in-None.ensures.kept h i (c.self.invariant i h e))

pub returns-in_ok-push-in-None : goal.returns-in_ok-push-in-None
returns-in_ok-push-in-None c =
    let pushed = rw (c.self.view_is) at c.in_ok-push-in-None.ensures.pushed in
    subst (λ v. Adds {A = ℕ} (λ a. a ≡ c.args.prediction) c.args.self.now v) (sym pushed)
    (adds_one c.args.prediction c.args.self.now c.in-None.ensures.none)

pub returns-in-Some : goal.returns-in-Some
returns-in-Some c = adds_none (λ a. a ≡ c.args.prediction) c.args.self.now
    (λ a same. subst (λ v. In v c.args.self.now) (sym same)
    (get_in c.args.prediction c.args.self.now _ c.in-Some.ensures.found))
