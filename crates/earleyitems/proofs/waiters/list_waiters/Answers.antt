use Rattle.std.proofs.Common.{◌≡◌, ◌∙◌, ◌++◌, ap, sym, subst, refl, length, arith}
use Rattle.flatgrammar.specs.ItemClosures.{closure_of}
use Rattle.earleyitems.specs.SetViews.{full}
use Rattle.earleyitems.specs.EarleySets.{firsts_of}
use Rattle.earleyitems.specs.Waiting.{AreWaiting}
use Rattle.earleyitems.proofs.RecordsLemmas.{fresh, fresh_zeros, after_is, are_after}
use Rattle.earleyitems.proofs.waiters.list_waiters.Goals as goal

pub list_all-requires-clause-none : goal.list_all-requires-clause-none
list_all-requires-clause-none c h =
    let from : c.len-from.result ≡ length c.args.records.now.items =
    (let e = c.len-from.ensures in let o = c.args.records.now.ok.0 in omega (arith, e, o)) in
    let xs = c.deref_mut.result.now in
    let are : xs ≡ c.args.records.now.items ++ fresh c.args.predictions.now =
    c.deref_mut.ensures.value ∙ (c.in_ok-add_records.ensures.are
    ∙ ap (λ v. c.args.records.now.items ++ fresh v) c.list.ensures) in
    let slice = after_is c.args.records.now.items xs (fresh c.args.predictions.now) c.len-from.result are
    from in
    rw slice (fresh_zeros c.args.predictions.now h)

pub returns-in_err-list_all-clause-records : goal.returns-in_err-list_all-clause-records
returns-in_err-list_all-clause-records c =
    let from : c.len-from.result ≡ length c.args.records.now.items =
    (let e = c.len-from.ensures in let o = c.args.records.now.ok.0 in omega (arith, e, o)) in
    let xs = c.deref_mut.result.now in
    let are : xs ≡ c.args.records.now.items ++ fresh c.args.predictions.now =
    c.deref_mut.ensures.value ∙ (c.in_ok-add_records.ensures.are
    ∙ ap (λ v. c.args.records.now.items ++ fresh v) c.list.ensures) in
    let size : c.add_records.new.records.len ≡ length xs =
    (let e = ap (λ v. length v) c.deref_mut.ensures.value in let o = c.add_records.new.records.ok.0 in
    omega (arith, e, o)) in
    let wait = c.list_all.ensures in
    let after = are_after c.args.predictions.now c.args.records.now.items xs c.list_all.new.records _
    c.len-from.result c.add_records.new.records.len _ are from wait.long wait.same size
    refl in
    after.goes

pub returns-clause-records : goal.returns-clause-records
returns-clause-records c =
    let from : c.len-from.result ≡ length c.args.records.now.items =
    (let e = c.len-from.ensures in let o = c.args.records.now.ok.0 in omega (arith, e, o)) in
    let xs = c.deref_mut.result.now in
    let are : xs ≡ c.args.records.now.items ++ fresh c.args.predictions.now =
    c.deref_mut.ensures.value ∙ (c.in_ok-add_records.ensures.are
    ∙ ap (λ v. c.args.records.now.items ++ fresh v) c.list.ensures) in
    let size : c.add_records.new.records.len ≡ length xs =
    (let e = ap (λ v. length v) c.deref_mut.ensures.value in let o = c.add_records.new.records.ok.0 in
    omega (arith, e, o)) in
    let wait = c.list_all.ensures in
    let after = are_after c.args.predictions.now c.args.records.now.items xs c.list_all.new.records _
    c.len-from.result c.add_records.new.records.len c.len.result are from wait.long wait.same
    size (let end = c.len.ensures in omega (arith, end)) in
    after.goes

pub returns-clause-predictions : goal.returns-clause-predictions
returns-clause-predictions c =
    let from : c.len-from.result ≡ length c.args.records.now.items =
    (let e = c.len-from.ensures in let o = c.args.records.now.ok.0 in omega (arith, e, o)) in
    let xs = c.deref_mut.result.now in
    let are : xs ≡ c.args.records.now.items ++ fresh c.args.predictions.now =
    c.deref_mut.ensures.value ∙ (c.in_ok-add_records.ensures.are
    ∙ ap (λ v. c.args.records.now.items ++ fresh v) c.list.ensures) in
    let size : c.add_records.new.records.len ≡ length xs =
    (let e = ap (λ v. length v) c.deref_mut.ensures.value in let o = c.add_records.new.records.ok.0 in
    omega (arith, e, o)) in
    let wait = c.list_all.ensures in
    let after = are_after c.args.predictions.now c.args.records.now.items xs c.list_all.new.records _
    c.len-from.result c.add_records.new.records.len c.len.result are from wait.long wait.same
    size (let end = c.len.ensures in omega (arith, end)) in
    after.predictions_are

pub returns-clause-waiting : goal.returns-clause-waiting
returns-clause-waiting c items are_chosen =
    let from : c.len-from.result ≡ length c.args.records.now.items =
    (let e = c.len-from.ensures in let o = c.args.records.now.ok.0 in omega (arith, e, o)) in
    let xs = c.deref_mut.result.now in
    let are : xs ≡ c.args.records.now.items ++ fresh c.args.predictions.now =
    c.deref_mut.ensures.value ∙ (c.in_ok-add_records.ensures.are
    ∙ ap (λ v. c.args.records.now.items ++ fresh v) c.list.ensures) in
    let size : c.add_records.new.records.len ≡ length xs =
    (let e = ap (λ v. length v) c.deref_mut.ensures.value in let o = c.add_records.new.records.ok.0 in
    omega (arith, e, o)) in
    let wait = c.list_all.ensures in
    let after = are_after c.args.predictions.now c.args.records.now.items xs c.list_all.new.records _
    c.len-from.result c.add_records.new.records.len c.len.result are from wait.long wait.same
    size (let end = c.len.ensures in omega (arith, end)) in
    subst (λ v. AreWaiting c.args.flat.now
    (full (closure_of c.args.flat.now) c.args.number c.args.predictions.now items)
    c.args.predictions.now (firsts_of v) c.list_all.new.waiters.items) (sym after.part_is)
    (c.in_ok-list_all.ensures.more items are_chosen)

pub returns-clause-owners : goal.returns-clause-owners
returns-clause-owners c rows row callers are = c.in_ok-list_all.ensures.owners rows row callers are
