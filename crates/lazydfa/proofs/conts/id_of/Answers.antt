use Rattle.std.proofs.Common.{◌≡◌, subst}
use Rattle.std.specs.Prelude.{slice_get, Some}
use Rattle.lazydfa.proofs.ContsLemmas.{found_is, pushed_kept}
use Rattle.lazydfa.proofs.conts.id_of.Goals as goal

pub returns-in-Some-clause-is : goal.returns-in-Some-clause-is
returns-in-Some-clause-is c =
    let f = c.in-Some.ensures in
    found_is c.args.conts.now.items.items f.0 c.in-Some.id c.args.cont c.requires.older f.1
    (subst (λ v. slice_get v f.0 ≡ Some c.args.cont) c.deref.ensures.value f.2)

pub returns-clause-kept : goal.returns-clause-kept
returns-clause-kept c =
    pushed_kept c.args.conts.now.items.items c.args.cont _ c.requires.within c.in_ok-push.ensures.items
