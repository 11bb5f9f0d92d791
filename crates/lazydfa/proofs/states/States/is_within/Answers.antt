use Rattle.std.proofs.Common.{◌≡◌, sym, ◌∙◌, ap, subst, arith, Some}
use Rattle.std.proofs.lemmas.Option.{slice_get-get_or}
use Rattle.std.specs.Prelude.{Contains, slice_get}
use Rattle.flatgrammar.proofs.CallOfLemmas.{get_unmap}
use Rattle.lazydfa.specs.StateSets.{state_set_of}
use Rattle.lazydfa.proofs.StackCutsLemmas.{within_is}
use Rattle.lazydfa.proofs.states.States.is_within.Goals as goal
use Rattle.lazydfa.proofs.states.States.is_within.Goals.{else-got-via-then-got+else-not-more, else-got-via-else-got}

pub returns : goal.returns
returns c = λ got more at_got at_more yes.
    let conts = c.self.inside.cache.conts.items.items in
    let states = c.self.inside.cache.states.items in
    let u = get_unmap (state_set_of conts) states c.args.state got
    (subst (λ v. slice_get v.states c.args.state ≡ Some got) (sym c.self.view_is) at_got) in
    let o = get_unmap (state_set_of conts) states c.args.other more
    (subst (λ v. slice_get v.states c.args.other ≡ Some more) (sym c.self.view_is) at_more) in
    let got_there : slice_get states c.args.state ≡ Some c.in-Some.got.now =
    subst (λ v. slice_get v c.args.state ≡ Some c.in-Some.got.now) c.deref.ensures.value
    (slice_get-get_or c.deref.result.now c.args.state c.in-Some.got.now
    (let t = c.in-Some.ensures.lookup.0 in grind (arith, t)) ∙ ap (λ v. Some v) (sym c.in-Some.ensures.lookup.1)) in
    let more_there : slice_get states c.args.other ≡ Some c.in-Some-get.more.now =
    subst (λ v. slice_get v c.args.other ≡ Some c.in-Some-get.more.now) c.deref-2.ensures.value
    (slice_get-get_or c.deref-2.result.now c.args.other c.in-Some-get.more.now
    (let t = c.in-Some-get.ensures.lookup.0 in grind (arith, t))
    ∙ ap (λ v. Some v) (sym c.in-Some-get.ensures.lookup.1)) in
    let got_same : u.from ≡ c.in-Some.got.now = cc (u.at, got_there) in
    let more_same : o.from ≡ c.in-Some-get.more.now = cc (o.at, more_there) in
    within_is conts c.in-Some.got.now c.in-Some-get.more.now got more
    (ap (λ v. state_set_of conts v) (sym got_same) ∙ u.is) (ap (λ v. state_set_of conts v) (sym more_same) ∙ o.is)
    (λ id h. subst (λ v. Contains v id) c.deref-4.ensures.value (c.are_among.ensures yes id
    (subst (λ v. Contains v id) (sym c.deref-3.ensures.value) h)))
    (λ e. elim c.else-got.branch [
      | else-got-via-then-got+else-not-more w ↦ w.if-not-more.false
      | else-got-via-else-got w ↦ absurd (let runs = w.if-got.false in cc (e, runs))
    ])
