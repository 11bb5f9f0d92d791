use Rattle.std.proofs.Common.{◌≡◌, sym, ◌∙◌, ap, subst, arith, eqb, Some}
use Rattle.std.proofs.lemmas.Option.{slice_get-get_or, slice_get_within}
use Rattle.std.specs.Prelude.{slice_get}
use Rattle.flatgrammar.proofs.CallOfLemmas.{get_unmap}
use Rattle.lazydfa.specs.StateSets.{state_set_of}
use Rattle.lazydfa.proofs.StateSetsLemmas.{dead_is}
use Rattle.lazydfa.proofs.states.States.is_dead.Goals as goal

pub returns-in-Some : goal.returns-in-Some
returns-in-Some c = λ got is.
    let u = get_unmap (state_set_of c.self.inside.cache.conts.items.items) c.self.inside.cache.states.items c.args.state
    got
    (subst (λ v. slice_get v.states c.args.state ≡ Some got) (sym c.self.view_is) is) in
    let there : slice_get c.self.inside.cache.states.items c.args.state ≡ Some c.in-Some.got.now =
    subst (λ v. slice_get v c.args.state ≡ Some c.in-Some.got.now) c.deref.ensures.value
    (slice_get-get_or c.deref.result.now c.args.state c.in-Some.got.now
    (let t = c.in-Some.ensures.lookup.0 in grind (arith, t)) ∙ ap (λ v. Some v) (sym c.in-Some.ensures.lookup.1)) in
    let same : u.from ≡ c.in-Some.got.now = cc (u.at, there) in
    dead_is c.self.inside.cache.conts.items.items c.in-Some.got.now got
    (ap (λ v. state_set_of c.self.inside.cache.conts.items.items v) (sym same) ∙ u.is) c.is_empty.result
    (c.is_empty.ensures ∙ ap (λ v. eqb v 0) c.in-Some.got.now.tops.ok.0)

pub returns-in-None : goal.returns-in-None
returns-in-None c = λ got is.
    let u = get_unmap (state_set_of c.self.inside.cache.conts.items.items) c.self.inside.cache.states.items c.args.state
    got
    (subst (λ v. slice_get v.states c.args.state ≡ Some got) (sym c.self.view_is) is) in
    let lt = slice_get_within c.self.inside.cache.states.items c.args.state u.from u.at in
    let past = c.in-None.ensures.lookup.3 in
    let size = c.deref.ensures.len in
    absurd (omega (arith, lt, past, size))
