use Rattle.std.proofs.Common.{subst, []}
use Rattle.std.proofs.lemmas.Option.{IfSome_then}
use Rattle.lazydfa.specs.Cached.{IsCache}
use Rattle.lazydfa.specs.StackCuts.{IsCutAt}
use Rattle.lazydfa.specs.StateSets.{AreMoreStates, sets_of}
use Rattle.lazydfa.proofs.StackCutsLemmas.{is_cut_state}
use Rattle.lazydfa.proofs.StateSetsLemmas.{more_states}
use Rattle.lazydfa.proofs.KernelsLemmas.{wholes_grown}
use Rattle.lazydfa.proofs.states.States.cut.Goals as goal

pub invariant_of-self : goal.invariant_of-self
invariant_of-self c = (
  c.self.invariant.0,
  subst (λ v. IsCache v [] c.cut_whole.new.cache) c.deref.ensures c.in-Ok.ensures.cached,
  wholes_grown c.self.inside.tables.value c.self.inside.cache.conts.items.items c.cut_whole.new.cache.conts.items.items
      c.self.inside.cache.states.items c.cut_whole.new.cache.states.items c.self.inside.leads.items.items
      c.in-Ok.ensures.grows.conts c.in-Ok.ensures.grows.states c.self.invariant.2,
)

pub returns-in-Ok-clause-more : goal.returns-in-Ok-clause-more
returns-in-Ok-clause-more c =
    subst (λ v. AreMoreStates v (record {
      tables = c.self.inside.tables.value;
      states = sets_of c.cut_whole.new.cache.conts.items.items c.cut_whole.new.cache.states.items;
    })) c.self.view_is
    (more_states c.self.inside.cache.conts.items.items c.cut_whole.new.cache.conts.items.items
    c.in-Ok.ensures.grows.conts c.self.inside.tables.value c.self.inside.cache.states.items
    c.cut_whole.new.cache.states.items c.in-Ok.ensures.grows.states c.self.invariant.1.within)

pub returns-in-Ok-clause-is : goal.returns-in-Ok-clause-is
returns-in-Ok-clause-is c =
    IfSome_then c.in-Ok.reported c.in-Ok.ensures.is (λ cut h. is_cut_state c.self.inside.tables.value
    c.self.invariant.0 c.cut_whole.new.cache.conts.items.items c.cut_whole.new.cache.states.items c.args.state
    cut.tops cut.below (subst (λ v. IsCutAt v c.cut_whole.new.cache.conts.items.items
    c.cut_whole.new.cache.states.items c.args.state cut.tops cut.below) c.deref.ensures h))
