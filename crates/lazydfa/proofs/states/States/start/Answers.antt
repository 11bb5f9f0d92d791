use Rattle.std.proofs.Common.{subst, []}
use Rattle.lazydfa.specs.Cached.{IsCache, IsStartAt}
use Rattle.lazydfa.specs.StateSets.{AreMoreStates, sets_of}
use Rattle.lazydfa.proofs.StateSetsLemmas.{start_state, more_states}
use Rattle.lazydfa.proofs.KernelsLemmas.{wholes_grown}
use Rattle.lazydfa.proofs.states.States.start.Goals as goal

pub invariant_of-self : goal.invariant_of-self
invariant_of-self c = (
  c.self.invariant.0,
  subst (λ v. IsCache v [] c.begin.new.cache) c.deref.ensures c.in-Ok-true.ensures.cached,
  wholes_grown c.self.inside.tables.value c.self.inside.cache.conts.items.items c.begin.new.cache.conts.items.items
      c.self.inside.cache.states.items c.begin.new.cache.states.items c.self.inside.leads.items.items
      c.in-Ok-true.ensures.grows.conts c.in-Ok-true.ensures.grows.states c.self.invariant.2,
)

pub invariant_of-self-in-Ok-false : goal.invariant_of-self-in-Ok-false
invariant_of-self-in-Ok-false c = (
  c.self.invariant.0,
  subst (λ v. IsCache v [] c.begin.new.cache) c.deref.ensures c.in-Ok-false.ensures.cached,
  wholes_grown c.self.inside.tables.value c.self.inside.cache.conts.items.items c.begin.new.cache.conts.items.items
      c.self.inside.cache.states.items c.begin.new.cache.states.items c.self.inside.leads.items.items
      c.in-Ok-false.ensures.grows.conts c.in-Ok-false.ensures.grows.states c.self.invariant.2,
)

pub returns-in-Ok-true-clause-more : goal.returns-in-Ok-true-clause-more
returns-in-Ok-true-clause-more c =
    subst (λ v. AreMoreStates v (record {
      tables = c.self.inside.tables.value;
      states = sets_of c.begin.new.cache.conts.items.items c.begin.new.cache.states.items;
    })) c.self.view_is
    (more_states c.self.inside.cache.conts.items.items c.begin.new.cache.conts.items.items
    c.in-Ok-true.ensures.grows.conts c.self.inside.tables.value c.self.inside.cache.states.items
    c.begin.new.cache.states.items c.in-Ok-true.ensures.grows.states c.self.invariant.1.within)

pub returns-in-Ok-false-clause-more : goal.returns-in-Ok-false-clause-more
returns-in-Ok-false-clause-more c =
    subst (λ v. AreMoreStates v (record {
      tables = c.self.inside.tables.value;
      states = sets_of c.begin.new.cache.conts.items.items c.begin.new.cache.states.items;
    })) c.self.view_is
    (more_states c.self.inside.cache.conts.items.items c.begin.new.cache.conts.items.items
    c.in-Ok-false.ensures.grows.conts c.self.inside.tables.value c.self.inside.cache.states.items
    c.begin.new.cache.states.items c.in-Ok-false.ensures.grows.states c.self.invariant.1.within)

pub returns-in-Ok-true-clause-is : goal.returns-in-Ok-true-clause-is
returns-in-Ok-true-clause-is c =
    start_state c.self.inside.tables.value c.self.invariant.0 c.begin.new.cache.conts.items.items
    c.begin.new.cache.states.items 0 (subst (λ v. IsStartAt v c.begin.new.cache.conts.items.items
    c.begin.new.cache.states.items 0) c.deref.ensures (c.in-Ok-true.ensures.is c.in-Ok-true.field-0-test))
