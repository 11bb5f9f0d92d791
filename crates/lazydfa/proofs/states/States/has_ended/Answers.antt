use Rattle.std.proofs.Common.{◌≡◌, sym, ◌∙◌, ap, subst, Some}
use Rattle.std.specs.Prelude.{slice_get}
use Rattle.flatgrammar.proofs.CallOfLemmas.{get_unmap}
use Rattle.lazydfa.specs.StateSets.{state_set_of}
use Rattle.lazydfa.proofs.states.States.has_ended.Goals as goal

pub returns : goal.returns
returns c = λ got is.
    let u = get_unmap (state_set_of c.self.inside.cache.conts.items.items) c.self.inside.cache.states.items c.args.state
    got
    (subst (λ v. slice_get v.states c.args.state ≡ Some got) (sym c.self.view_is) is) in
    c.has_ended.ensures u.from u.at ∙ ap (λ v. v.ended) u.is
