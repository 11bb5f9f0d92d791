use Rattle.std.proofs.Common.{◌≡◌, ◌∙◌, ◌≤◌, Some, None, length, slice_get, ap, sym, subst, rules}
use Rattle.flatgrammar.specs.ItemClosures.{inlined_of}
use Rattle.earleyitems.specs.ItemOwners.{prediction_rows}
use Rattle.earleyitems.specs.ItemSets.{Adds, IsAdvanced}
use Rattle.earleyitems.proofs.AloneLemmas.{alone_adds}
use Rattle.earleyitems.proofs.ExpandLemmas.{advanced_none, waiting_none, waiting_some}
use Rattle.earleyitems.proofs.ItemOwnersLemmas.{first_owned, first_is, owner_inlined, owner_own, none_of, waiters_keep}
use Rattle.earleyitems.proofs.ItemOwnersLemmas.{within_records}
use Rattle.earleyitems.proofs.ListAllLemmas.{chain_within, listed_adds, listed_chain}
use Rattle.earleyitems.proofs.fill.complete_target.Goals as goal

pub returns-in_default-clause-added : goal.returns-in_default-clause-added
returns-in_default-clause-added c =
    subst (λ v. Adds (IsAdvanced c.args.flat.now c.args.at.item.node v) c.args.set.now.items c.args.set.now.items)
    (sym (waiting_none c.args.flat.now c.args.sets.now c.args.at.item.origin (sym c.in_default.ensures)))
    (advanced_none c.args.flat.now c.args.at.item.node c.args.set.now.items)

pub returns-in-Some-sole_caller-clause-added : goal.returns-in-Some-sole_caller-clause-added
returns-in-Some-sole_caller-clause-added c =
    let f = c.in-Some.kept_set in
    let there : slice_get c.args.sets.now c.args.at.item.origin ≡ Some f = sym c.in-Some.ensures in
    let is = sym c.sole_caller.ensures ∙ c.in-Some-sole_caller.is in
    subst (λ v. Adds (IsAdvanced c.args.flat.now c.args.at.item.node v) c.args.set.now.items c.add.new.self.items)
    (sym (waiting_some c.args.flat.now c.args.sets.now c.args.at.item.origin f there))
    (alone_adds c.args.flat.now c.args.at.item.node c.in-Some-sole_caller.inlined f c.args.at.item.origin
    c.args.at.owner
    _ _ (c.requires.alone c.args.at.item.node c.in-Some-sole_caller.inlined is)
    (c.requires.owner f there
    ∙ ap Some (owner_inlined c.args.flat.now c.args.at.item.node c.in-Some-sole_caller.inlined is))
    (c.requires.begun c.args.at.item.origin f there) c.in_ok-add.ensures.added)

pub returns-in-Some-sole_caller-clause-owners : goal.returns-in-Some-sole_caller-clause-owners
returns-in-Some-sole_caller-clause-owners c rows have here are =
    let is = sym c.sole_caller.ensures ∙ c.in-Some-sole_caller.is in
    c.in_ok-add.ensures.owners c.args.flat.now rows
    (here ∙ ap Some (owner_inlined c.args.flat.now c.args.at.item.node c.in-Some-sole_caller.inlined is
    ∙ sym (c.requires.owners.inlines c.args.at.item.node c.in-Some-sole_caller.inlined is))) are

pub bounds-records-at : goal.bounds-records-at
bounds-records-at c =
    let f = c.in-Some.kept_set in
    let there : slice_get c.args.sets.now c.args.at.item.origin ≡ Some f = sym c.in-Some.ensures in
    within_records f.predictions c.records.result.now c.args.at.owner _ c.records.ensures.predictions
    (c.requires.owner f there)

pub offset_bounds-records-at : goal.offset_bounds-records-at
offset_bounds-records-at c = let lt = bounds-records-at c in search (rules, lt)

pub complete_listed-requires : goal.complete_listed-requires
complete_listed-requires c =
    let f = c.in-Some.kept_set in
    let there : slice_get c.args.sets.now c.args.at.item.origin ≡ Some f = sym c.in-Some.ensures in
    let owner = c.requires.owner f there in
    let own : inlined_of c.args.flat.now c.args.at.item.node ≡ None =
    none_of _ (λ inlined is. c.in_default-sole_caller.not-Some inlined (c.sole_caller.ensures ∙ is)) in
    let lt = within_records f.predictions c.records.result.now c.args.at.owner _ c.records.ensures.predictions owner in
    let l = c.requires.waiting c.args.at.item.origin f there c.args.at.owner c.args.at.item.node
    (owner ∙ ap Some (owner_own c.args.flat.now c.args.at.item.node own)) own in (
      l.items,
      listed_chain l (first_is f c.records.result.now c.args.at.owner _ c.records.ensures.firsts lt)
          (c.waiters.ensures c.args.at.item.origin f there),
    )

pub returns-clause-added : goal.returns-clause-added
returns-clause-added c =
    let f = c.in-Some.kept_set in
    let there : slice_get c.args.sets.now c.args.at.item.origin ≡ Some f = sym c.in-Some.ensures in
    let owner = c.requires.owner f there in
    let own : inlined_of c.args.flat.now c.args.at.item.node ≡ None =
    none_of _ (λ inlined is. c.in_default-sole_caller.not-Some inlined (c.sole_caller.ensures ∙ is)) in
    let lt = within_records f.predictions c.records.result.now c.args.at.owner _ c.records.ensures.predictions owner in
    let l = c.requires.waiting c.args.at.item.origin f there c.args.at.owner c.args.at.item.node
    (owner ∙ ap Some (owner_own c.args.flat.now c.args.at.item.node own)) own in
    let chain = listed_chain l (first_is f c.records.result.now c.args.at.owner _ c.records.ensures.firsts lt)
    (c.waiters.ensures c.args.at.item.origin f there) in
    subst (λ v. Adds (IsAdvanced c.args.flat.now c.args.at.item.node v) c.args.set.now.items
    c.complete_listed.new.set.items)
    (sym (waiting_some c.args.flat.now c.args.sets.now c.args.at.item.origin f there))
    (listed_adds l (c.in_ok-complete_listed.ensures.added l.items chain))

pub returns-clause-owners : goal.returns-clause-owners
returns-clause-owners c rows have here are =
    let f = c.in-Some.kept_set in
    let there : slice_get c.args.sets.now c.args.at.item.origin ≡ Some f = sym c.in-Some.ensures in
    let owner = c.requires.owner f there in
    let own : inlined_of c.args.flat.now c.args.at.item.node ≡ None =
    none_of _ (λ inlined is. c.in_default-sole_caller.not-Some inlined (c.sole_caller.ensures ∙ is)) in
    let lt = within_records f.predictions c.records.result.now c.args.at.owner _ c.records.ensures.predictions owner in
    let l = c.requires.waiting c.args.at.item.origin f there c.args.at.owner c.args.at.item.node
    (owner ∙ ap Some (owner_own c.args.flat.now c.args.at.item.node own)) own in
    let same = first_is f c.records.result.now c.args.at.owner _ c.records.ensures.firsts lt in
    let short = subst (λ n. n ≤ length f.waiters) same (chain_within l.chain) in
    c.in_ok-complete_listed.ensures.owners c.args.flat.now rows
    (first_owned c.args.flat.now rows f.waiters c.waiters.result.now _
    (c.waiters.ensures c.args.at.item.origin f there) short
    (waiters_keep c.args.flat.now rows (prediction_rows c.args.sets.now) have f.waiters
    (c.requires.owned c.args.at.item.origin f there))) are
