use Rattle.std.proofs.Common.{◌≡◌, sym, subst}
use Rattle.flatgrammar.specs.Positions.{In}
use Rattle.earleyitems.specs.ItemSets.{Adds}
use Rattle.earleyitems.proofs.AddsLemmas.{adds_one}
use Rattle.earleyitems.proofs.items.add_linear.Goals as goal

pub returns-in_ok-push-clause-added : goal.returns-in_ok-push-clause-added
returns-in_ok-push-clause-added c =
    subst (λ v. Adds (λ a. a ≡ c.args.item) c.args.list.now.items v) (sym c.in_ok-push.ensures.items)
    (adds_one c.args.item c.args.list.now.items
    (λ h. let t = c.holds.ensures.1 (subst (λ v. In c.args.item v) (sym c.deref.ensures.value) h) in let f =
    c.if-not-holds.true in absurd cc))
