use Rattle.std.proofs.Common.{subst, sym, []}
use Rattle.lazydfa.specs.Cached.{IsCache}
use Rattle.lazydfa.specs.Kernels.{AreWholeLeads}
use Rattle.lazydfa.specs.StateSets.{IsLed}
use Rattle.std.proofs.lemmas.Option.{IfSome_then}
use Rattle.lazydfa.specs.StateSets.{AreMoreStates, sets_of}
use Rattle.lazydfa.proofs.StateSetsLemmas.{led_next, more_states}
use Rattle.lazydfa.proofs.states.States.next.Goals as goal

pub lead_whole-requires-clause-leads : goal.lead_whole-requires-clause-leads
lead_whole-requires-clause-leads c =
    subst (λ v. AreWholeLeads v c.self.inside.cache.conts.items.items c.self.inside.cache.states.items
    c.self.inside.leads.items.items) (sym c.deref.ensures) c.self.invariant.2

pub invariant_of-self : goal.invariant_of-self
invariant_of-self c = (
  c.self.invariant.0,
  subst (λ v. IsCache v [] c.lead_whole.new.cache) c.deref.ensures c.in-Ok.ensures.cached,
  subst (λ v. AreWholeLeads v c.lead_whole.new.cache.conts.items.items c.lead_whole.new.cache.states.items
      c.lead_whole.new.leads.items.items) c.deref.ensures c.in-Ok.ensures.leads,
)

pub returns-in-Ok-clause-more : goal.returns-in-Ok-clause-more
returns-in-Ok-clause-more c =
    subst (λ v. AreMoreStates v (record {
      tables = c.self.inside.tables.value;
      states = sets_of c.lead_whole.new.cache.conts.items.items c.lead_whole.new.cache.states.items;
    })) c.self.view_is
    (more_states c.self.inside.cache.conts.items.items c.lead_whole.new.cache.conts.items.items
    c.in-Ok.ensures.grows.conts c.self.inside.tables.value c.self.inside.cache.states.items
    c.lead_whole.new.cache.states.items c.in-Ok.ensures.grows.states c.self.invariant.1.within)

pub returns-in-Ok-clause-is : goal.returns-in-Ok-clause-is
returns-in-Ok-clause-is c =
    IfSome_then c.in-Ok.reported c.in-Ok.ensures.is (λ t h. led_next c.self.inside.tables.value c.self.invariant.0
    c.lead_whole.new.cache.conts.items.items c.lead_whole.new.cache.states.items c.args.value c.args.state t
    (subst (λ v. IsLed v c.args.value c.lead_whole.new.cache.conts.items.items c.lead_whole.new.cache.states.items
    c.args.state t) c.deref.ensures h))
