use Rattle.std.proofs.Common.{◌≡◌, ◌+◌, ◌<◌, length, Some, sym, ◌∙◌, ap, refl, arith, subst}
use Rattle.flatgrammar.proofs.CallOfLemmas.{some_same}
use Rattle.earleyitems.specs.EarleySets.{firsts_of, the_record}
use Rattle.earleyitems.specs.Waiting.{item_from}
use Rattle.earleyitems.proofs.ListAllLemmas.{waiting_none, waiting_more}
use Rattle.earleyitems.proofs.AreBucketsLemmas.{get_in}
use Rattle.earleyitems.proofs.RecordsLemmas.{below_firsts, first_at, first_set}
use Rattle.earleyitems.specs.ItemOwners.{AreWaitersOwned}
use Rattle.earleyitems.proofs.ItemOwnersLemmas.{waiters_push}
use Rattle.earleyitems.proofs.waiters.list_item.Goals as goal

pub returns-in_default-clause-more : goal.returns-in_default-clause-more
returns-in_default-clause-more c flat seen step call are =
    waiting_none flat c.args.predictions.now seen (item_from c.args.item step)
    (firsts_of c.args.records.now) c.args.waiters.now.items
    (λ h t l at is.
    let same : c.args.target ≡ t = ap (λ v. v.0) (some_same (sym call ∙ is)) in
    c.in_default.ensures.none (get_in c.args.target c.args.predictions.now h (at ∙ ap Some (sym same)))) are

pub returns-clause-more : goal.returns-clause-more
returns-clause-more c flat seen step call are =
    let count : c.len.result ≡ length c.args.waiters.now.items + 1 =
    (let e = c.len.ensures in let q = c.in_ok-push.ensures.len in let o = c.args.waiters.now.ok.0 in
    omega (arith, e, q, o)) in
    let lt : c.in-Some.index < length c.args.records.now =
    (let b = c.in-Some.ensures.within in let n = c.requires in omega (arith, b, n)) in
    rw (
      c.in_ok-push.ensures.items,
      (first_set c.args.records.now c.in-Some.index (the_record 0 0) c.len.result lt).1,
      count,
    )
    (waiting_more flat c.args.predictions.now seen (item_from c.args.item step)
    (firsts_of c.args.records.now) c.args.waiters.now.items
    c.in-Some.index c.args.target c.args.item.step _ call
    c.in-Some.ensures.found c.in-Some.ensures.only (below_firsts c.args.records.now c.in-Some.index lt) refl
    (first_at c.args.records.now c.in-Some.index (the_record 0 0) 0 lt) are)

pub returns-clause-same : goal.returns-clause-same
returns-clause-same c =
    let lt : c.in-Some.index < length c.args.records.now =
    (let b = c.in-Some.ensures.within in let n = c.requires in omega (arith, b, n)) in
    (first_set c.args.records.now c.in-Some.index (the_record 0 0) c.len.result lt).0

pub returns-in_default-clause-owners : goal.returns-in_default-clause-owners
returns-in_default-clause-owners c flat rows is are = are

pub returns-clause-owners : goal.returns-clause-owners
returns-clause-owners c flat rows is are = subst (λ v. AreWaitersOwned flat rows v) (sym c.in_ok-push.ensures.items)
    (waiters_push flat rows c.args.waiters.now.items _ is are)
