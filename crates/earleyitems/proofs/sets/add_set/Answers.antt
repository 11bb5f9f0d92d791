use Rattle.std.proofs.Common.{◌≡◌, ◌++◌, ◌∷◌, [], length, refl, ap, sym, ◌∙◌, subst, arith}
use Rattle.std.proofs.lemmas.List.{length-map, take_all}
use Rattle.earleyitems.specs.EarleySets.{set_in, sets_in}
use Rattle.earleyitems.specs.ItemOwners.{prediction_rows, prediction_rows_with, AreSetsOwned, AreWaitersOwned}
use Rattle.earleyitems.specs.Waiting.{IsKept}
use Rattle.earleyitems.proofs.ItemOwnersLemmas.{all_owned, own_row, rows_more, sets_owned, waiters_keep}
use Rattle.earleyitems.proofs.SetsLemmas.{sets_push}
use Rattle.earleyitems.proofs.RecordsLemmas.{added_stored}
use Rattle.earleyitems.proofs.sets.add_set.Goals as goal

pub returns-clause-stored : goal.returns-clause-stored
returns-clause-stored c =
    added_stored c.args.stores.now c.store.new.stores c.args.bounds.now.items c.push.new.self.items c.in_ok-more.more
    c.in_ok-push.ensures.items c.store.ensures.more c.requires.stored c.in_ok-more.ensures.bounds
    c.in_ok-more.ensures.ends

pub returns-clause-added : goal.returns-clause-added
returns-clause-added c =
    let number : c.len.result ≡ length c.args.bounds.now.items =
    (let e = c.len.ensures in let o = c.args.bounds.now.ok.0 in omega (arith, e, o)) in
    let kept_set = set_in c.store.new.stores c.in_ok-more.more in (
      kept_set,
      (
        ap (λ v. sets_in c.store.new.stores v) c.in_ok-push.ensures.items
            ∙ sets_push c.args.stores.now c.store.new.stores c.args.bounds.now.items c.in_ok-more.more kept_set
            c.store.ensures.more c.requires.stored.within refl,
        subst (λ n. IsKept c.args.flat.now n c.args.filled.predictions.now c.args.filled.items.now kept_set) number
            c.in_ok-more.ensures.kept,
      ),
    )

pub returns-clause-owners : goal.returns-clause-owners
returns-clause-owners c are callers =
    let number : c.len.result ≡ length c.args.bounds.now.items =
    (let e = c.len.ensures in let o = c.args.bounds.now.ok.0 in omega (arith, e, o)) in
    let old = sets_in c.args.stores.now c.args.bounds.now.items in
    let rows = prediction_rows_with old c.args.filled.predictions.now in
    let kept_set = set_in c.store.new.stores c.in_ok-more.more in
    let count : c.len.result ≡ length (prediction_rows old) =
    number ∙ (sym (length-map c.args.bounds.now.items (set_in c.args.stores.now))
    ∙ sym (length-map old (λ f. f.predictions))) in
    let waiters = c.in_ok-more.ensures.owners rows
    (own_row (prediction_rows old) c.args.filled.predictions.now c.len.result count)
    callers (waiters_keep c.args.flat.now rows (prediction_rows old)
    (rows_more (prediction_rows old) c.args.filled.predictions.now)
    c.args.stores.now.waiters.items (all_owned c.args.flat.now c.args.stores.now c.args.bounds.now.items
    c.requires.stored.ends are)) in
    let ends = c.in_ok-more.ensures.ends in
    let all : kept_set.waiters ≡ c.store.new.stores.waiters.items =
    take_all c.in_ok-more.more.waiters c.store.new.stores.waiters.items (omega (arith, ends)) in
    let is : sets_in c.store.new.stores c.push.new.self.items ≡ old ++ kept_set ∷ [] =
    ap (λ v. sets_in c.store.new.stores v) c.in_ok-push.ensures.items
    ∙ sets_push c.args.stores.now c.store.new.stores c.args.bounds.now.items c.in_ok-more.more kept_set
    c.store.ensures.more c.requires.stored.within refl in
    subst (λ v. AreSetsOwned c.args.flat.now v) (sym is)
    (sets_owned c.args.flat.now old kept_set c.args.filled.predictions.now c.in_ok-more.ensures.kept.same_predictions
    are
    (subst (λ v. AreWaitersOwned c.args.flat.now rows v) (sym all) waiters))
