use Rattle.std.proofs.Common.{subst, sym, ap, []}
use Rattle.std.specs.Prelude.{Contains, IfSome}
use Rattle.lazydfa.specs.Conts.{AreKept}
use Rattle.lazydfa.specs.Kernels.{AreClosedTops, IsKernel, IsLeadKnown}
use Rattle.lazydfa.proofs.AreCachedLemmas.{cached_conts, grown_same}
use Rattle.lazydfa.proofs.KernelsLemmas.{begun_grown, closed_reordered, whole_found, whole_made, whole_noted}
use Rattle.lazydfa.proofs.KernelsLemmas.{wholes_grown}
use Rattle.lazydfa.proofs.states.close_whole.Goals as goal

pub kernel_of-requires-clause-within : goal.kernel_of-requires-clause-within
kernel_of-requires-clause-within c id h = c.requires.within id (subst (λ v. Contains v id) c.deref.ensures.value h)

pub returns-in-Some-clause-is : goal.returns-in-Some-clause-is
returns-in-Some-clause-is c =
    whole_found c.args.tables.now c.args.cache.now.conts.items.items c.args.cache.now.ids.items.items
    c.in_ok-kernel.kernel.items
    (subst (λ v. IsKernel c.args.tables.now c.args.cache.now.conts.items.items v c.in_ok-kernel.kernel.items)
    c.deref.ensures.value c.in_ok-kernel.ensures) c.args.cache.now.states.items c.args.leads.now.items.items
    c.in-Some.t c.requires.leads
    (subst (λ v. IsLeadKnown c.args.leads.now.items.items v c.in-Some.t) c.deref-2.ensures.value c.in-Some.ensures)

pub returns-in_default-reported-clause-cached : goal.returns-in_default-reported-clause-cached
returns-in_default-reported-clause-cached c =
    cached_conts c.args.tables.now [] c.args.cache.now.conts.items.items c.close_on.new.conts.items.items
    c.args.cache.now.states.items c.args.cache.now.cells.items c.in_ok-reported.ensures.kept c.requires.cached

pub returns-in_default-reported-clause-leads : goal.returns-in_default-reported-clause-leads
returns-in_default-reported-clause-leads c =
    wholes_grown c.args.tables.now c.args.cache.now.conts.items.items c.close_on.new.conts.items.items
    c.args.cache.now.states.items c.args.cache.now.states.items c.args.leads.now.items.items
    c.in_ok-reported.ensures.kept (grown_same c.args.cache.now.states.items) c.requires.leads

pub returns-clause-cached : goal.returns-clause-cached
returns-clause-cached c =
    let closed = closed_reordered c.args.tables.now c.args.cache.now.conts.items.items c.args.cache.now.ids.items.items
    c.close_on.new.conts.items.items c.in-Some-reported.closure.tops.items c.in_order.result.tops.items
    c.in-Some-reported.closure.ended c.in_order.ensures.tops
    (subst (λ v. IfSome v (λ closure. AreClosedTops c.args.tables.now c.args.cache.now.conts.items.items
    c.args.cache.now.ids.items.items c.close_on.new.conts.items.items closure.tops.items closure.ended))
    c.in-Some-reported.is c.in_ok-reported.ensures.is) in
    begun_grown c.args.tables.now [] c.args.cache.now.conts.items.items c.close_on.new.conts.items.items
    c.state_of.new.cache.conts.items.items c.args.cache.now.states.items c.state_of.new.cache.states.items
    c.args.cache.now.cells.items c.state_of.new.cache.cells.items c.in_order.result.tops.items c.in_order.result.ended
    c.in_ok-t.t c.requires.cached c.requires.begun c.in_ok-reported.ensures.kept
    (ap (λ v. v.items.items) c.in_ok-t.ensures.conts) c.in_ok-t.ensures.is c.in_ok-t.ensures.cells closed.within

pub returns-clause-grows : goal.returns-clause-grows
returns-clause-grows c = record {
  conts = subst (λ v. AreKept c.args.cache.now.conts.items.items v)
      (sym (ap (λ v. v.items.items) c.in_ok-t.ensures.conts)) c.in_ok-reported.ensures.kept;
  states = c.in_ok-t.ensures.is.grown;
}

pub returns-clause-leads : goal.returns-clause-leads
returns-clause-leads c =
    let closed = closed_reordered c.args.tables.now c.args.cache.now.conts.items.items c.args.cache.now.ids.items.items
    c.close_on.new.conts.items.items c.in-Some-reported.closure.tops.items c.in_order.result.tops.items
    c.in-Some-reported.closure.ended c.in_order.ensures.tops
    (subst (λ v. IfSome v (λ closure. AreClosedTops c.args.tables.now c.args.cache.now.conts.items.items
    c.args.cache.now.ids.items.items c.close_on.new.conts.items.items closure.tops.items closure.ended))
    c.in-Some-reported.is c.in_ok-reported.ensures.is) in
    whole_noted c.args.tables.now c.args.cache.now.conts.items.items c.args.cache.now.ids.items.items
    c.in_ok-kernel.kernel.items
    (subst (λ v. IsKernel c.args.tables.now c.args.cache.now.conts.items.items v c.in_ok-kernel.kernel.items)
    c.deref.ensures.value c.in_ok-kernel.ensures) c.state_of.new.cache.conts.items.items
    c.args.cache.now.states.items c.state_of.new.cache.states.items c.args.leads.now.items.items
    c.note_lead.new.leads.items.items c.in_ok-t.t
    (subst (λ v. AreKept c.args.cache.now.conts.items.items v)
    (sym (ap (λ v. v.items.items) c.in_ok-t.ensures.conts)) c.in_ok-reported.ensures.kept)
    c.in_ok-t.ensures.is.grown c.in_ok-note_lead.ensures
    (whole_made c.args.tables.now c.args.cache.now.conts.items.items c.close_on.new.conts.items.items
    c.state_of.new.cache.conts.items.items c.args.cache.now.states.items c.state_of.new.cache.states.items
    c.args.cache.now.ids.items.items c.in_order.result.tops.items c.in_order.result.ended c.in_ok-t.t
    (ap (λ v. v.items.items) c.in_ok-t.ensures.conts) c.in_ok-t.ensures.is
    (subst (λ v. AreClosedTops c.args.tables.now c.args.cache.now.conts.items.items c.args.cache.now.ids.items.items
    c.close_on.new.conts.items.items c.in_order.result.tops.items v) (sym c.in_order.ensures.ended) closed))
    c.requires.leads

pub returns-clause-is : goal.returns-clause-is
returns-clause-is c =
    let closed = closed_reordered c.args.tables.now c.args.cache.now.conts.items.items c.args.cache.now.ids.items.items
    c.close_on.new.conts.items.items c.in-Some-reported.closure.tops.items c.in_order.result.tops.items
    c.in-Some-reported.closure.ended c.in_order.ensures.tops
    (subst (λ v. IfSome v (λ closure. AreClosedTops c.args.tables.now c.args.cache.now.conts.items.items
    c.args.cache.now.ids.items.items c.close_on.new.conts.items.items closure.tops.items closure.ended))
    c.in-Some-reported.is c.in_ok-reported.ensures.is) in
    whole_made c.args.tables.now c.args.cache.now.conts.items.items c.close_on.new.conts.items.items
    c.state_of.new.cache.conts.items.items c.args.cache.now.states.items c.state_of.new.cache.states.items
    c.args.cache.now.ids.items.items c.in_order.result.tops.items c.in_order.result.ended c.in_ok-t.t
    (ap (λ v. v.items.items) c.in_ok-t.ensures.conts) c.in_ok-t.ensures.is
    (subst (λ v. AreClosedTops c.args.tables.now c.args.cache.now.conts.items.items c.args.cache.now.ids.items.items
    c.close_on.new.conts.items.items c.in_order.result.tops.items v) (sym c.in_order.ensures.ended) closed)
