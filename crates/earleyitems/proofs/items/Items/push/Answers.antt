use Rattle.std.proofs.Common.{◌≡◌, length, inr, sym, subst, arith}
use Rattle.earleyitems.specs.ItemOwners.{AreItemsOwned}
use Rattle.earleyitems.proofs.ItemOwnersLemmas.{entry_owned}
use Rattle.earleyitems.proofs.items.Items.push.Goals as goal

pub returns-clause-owners : goal.returns-clause-owners
returns-clause-owners c flat rows is are =
    let count : c.len.result ≡ length c.self.inside.list.items =
    (let e = c.len.ensures in let o = c.self.inside.list.ok.0 in omega (arith, e, o)) in
    entry_owned flat rows c.self.inside.list.items c.push.new.self.items c.self.inside.owners.items
    c.set_entry.new.links.items c.args.item c.args.owner c.len.result count c.in_ok-set_entry.ensures.here
    c.in_ok-set_entry.ensures.others (inr c.in_ok-push.ensures.items) is
    (subst (λ v. AreItemsOwned flat rows v) (sym c.self.view_is) are)
