use Rattle.std.proofs.Common.{◌≡◌, subst, sym, ap, false}
use Rattle.std.specs.Prelude.{IfSome}
use Rattle.lazydfa.specs.Conts.{AreKept}
use Rattle.lazydfa.specs.Kernels.{AreClosedTops}
use Rattle.lazydfa.specs.StackSuffixes.{IsSplitOff}
use Rattle.lazydfa.proofs.ContsLemmas.{kept_both, kept_within}
use Rattle.lazydfa.proofs.AreCachedLemmas.{cached_conts}
use Rattle.lazydfa.proofs.KernelsLemmas.{begun_grown, closes_pruned, lead_made, lead_pushed}
use Rattle.lazydfa.proofs.fill.lead_anew.Goals as goal

pub returns-in_default-clause-cached : goal.returns-in_default-clause-cached
returns-in_default-clause-cached c =
    cached_conts c.args.tables.now c.args.samples.now c.args.cache.now.conts.items.items
    c.close_on.new.conts.items.items c.args.cache.now.states.items c.args.cache.now.cells.items
    c.in_ok-reported.ensures.kept c.requires.cached

pub prune-requires-clause-within : goal.prune-requires-clause-within
prune-requires-clause-within c =
    let closed = subst (λ v. IfSome v (λ closure. AreClosedTops c.args.tables.now c.args.cache.now.conts.items.items
    c.args.cache.now.ids.items.items c.close_on.new.conts.items.items closure.tops.items closure.ended)) c.in-Some.is
    c.in_ok-reported.ensures.is in
    closed.within

pub prune-requires-clause-older : goal.prune-requires-clause-older
prune-requires-clause-older c = c.in_ok-reported.ensures.kept.older c.requires.cached.older

pub split_off-requires-clause-within : goal.split_off-requires-clause-within
split_off-requires-clause-within c = λ id h.
    let closed = subst (λ v. IfSome v (λ closure. AreClosedTops c.args.tables.now c.args.cache.now.conts.items.items
    c.args.cache.now.ids.items.items c.close_on.new.conts.items.items closure.tops.items closure.ended)) c.in-Some.is
    c.in_ok-reported.ensures.is in
    closed.within id (c.in_ok-kept.ensures.kept.only id h)

pub split_off-requires-clause-older : goal.split_off-requires-clause-older
split_off-requires-clause-older c = c.in_ok-reported.ensures.kept.older c.requires.cached.older

pub returns-in-Some-2-clause-cached : goal.returns-in-Some-2-clause-cached
returns-in-Some-2-clause-cached c =
    let split = subst (λ v. IfSome v (λ split. IsSplitOff c.args.tables.now c.split_off.new.conts.items.items
    c.in_ok-kept.kept.tops.items split.tops.items split.suffix)) c.in-Some-2.is c.in_ok-split.ensures.is in
    begun_grown c.args.tables.now c.args.samples.now c.args.cache.now.conts.items.items
    c.split_off.new.conts.items.items c.state_of.new.cache.conts.items.items c.args.cache.now.states.items
    c.state_of.new.cache.states.items c.args.cache.now.cells.items c.state_of.new.cache.cells.items
    c.in-Some-2.split.tops.items false c.in_ok-t.t c.requires.cached c.requires.begun
    (kept_both c.args.cache.now.conts.items.items c.close_on.new.conts.items.items
    c.split_off.new.conts.items.items c.in_ok-reported.ensures.kept c.in_ok-split.ensures.kept)
    (ap (λ v. v.items.items) c.in_ok-t.ensures.conts) c.in_ok-t.ensures.is c.in_ok-t.ensures.cells split.base_within

pub returns-in-Some-2-clause-grows : goal.returns-in-Some-2-clause-grows
returns-in-Some-2-clause-grows c = record {
  conts = subst (λ v. AreKept c.args.cache.now.conts.items.items v)
      (sym (ap (λ v. v.items.items) c.in_ok-t.ensures.conts))
      (kept_both c.args.cache.now.conts.items.items c.close_on.new.conts.items.items
      c.split_off.new.conts.items.items c.in_ok-reported.ensures.kept c.in_ok-split.ensures.kept);
  states = c.in_ok-t.ensures.is.grown;
}

pub returns-in-Some-2-clause-is : goal.returns-in-Some-2-clause-is
returns-in-Some-2-clause-is c =
    lead_pushed c.args.tables.now c.args.cache.now.conts.items.items c.close_on.new.conts.items.items
    c.split_off.new.conts.items.items c.state_of.new.cache.conts.items.items c.args.cache.now.states.items
    c.state_of.new.cache.states.items c.args.cache.now.ids.items.items c.in_ok-kept.kept.tops.items
    c.in-Some-2.split.tops.items c.in_ok-kept.kept.ended c.in_ok-t.t c.in-Some-2.split.suffix c.requires.within
    c.in_ok-split.ensures.kept (ap (λ v. v.items.items) c.in_ok-t.ensures.conts) c.in_ok-t.ensures.is
    (subst (λ v. IfSome v (λ split. c.in_ok-kept.kept.ended ≡ false)) c.in-Some-2.is c.in_ok-split.ensures.running)
    (closes_pruned c.args.tables.now c.args.cache.now.conts.items.items c.args.cache.now.ids.items.items
    c.close_on.new.conts.items.items c.in-Some.closure.tops.items c.in_ok-kept.kept.tops.items
    c.in-Some.closure.ended c.in_ok-kept.kept.ended
    (subst (λ v. IfSome v (λ closure. AreClosedTops c.args.tables.now c.args.cache.now.conts.items.items
    c.args.cache.now.ids.items.items c.close_on.new.conts.items.items closure.tops.items closure.ended)) c.in-Some.is
    c.in_ok-reported.ensures.is) c.in_ok-kept.ensures.kept c.in_ok-kept.ensures.ended)
    (subst (λ v. IfSome v (λ split. IsSplitOff c.args.tables.now c.split_off.new.conts.items.items
    c.in_ok-kept.kept.tops.items split.tops.items split.suffix)) c.in-Some-2.is c.in_ok-split.ensures.is)

pub returns-clause-cached : goal.returns-clause-cached
returns-clause-cached c =
    let closed = subst (λ v. IfSome v (λ closure. AreClosedTops c.args.tables.now c.args.cache.now.conts.items.items
    c.args.cache.now.ids.items.items c.close_on.new.conts.items.items closure.tops.items closure.ended)) c.in-Some.is
    c.in_ok-reported.ensures.is in
    begun_grown c.args.tables.now c.args.samples.now c.args.cache.now.conts.items.items
    c.split_off.new.conts.items.items c.state_of-2.new.cache.conts.items.items c.args.cache.now.states.items
    c.state_of-2.new.cache.states.items c.args.cache.now.cells.items c.state_of-2.new.cache.cells.items
    c.in_ok-kept.kept.tops.items c.in_ok-kept.kept.ended c.in_ok-t-2.t c.requires.cached c.requires.begun
    (kept_both c.args.cache.now.conts.items.items c.close_on.new.conts.items.items
    c.split_off.new.conts.items.items c.in_ok-reported.ensures.kept c.in_ok-split.ensures.kept)
    (ap (λ v. v.items.items) c.in_ok-t-2.ensures.conts) c.in_ok-t-2.ensures.is c.in_ok-t-2.ensures.cells
    (λ id h. kept_within c.close_on.new.conts.items.items c.split_off.new.conts.items.items
    c.in_ok-split.ensures.kept id (closed.within id (c.in_ok-kept.ensures.kept.only id h)))

pub returns-clause-grows : goal.returns-clause-grows
returns-clause-grows c = record {
  conts = subst (λ v. AreKept c.args.cache.now.conts.items.items v)
      (sym (ap (λ v. v.items.items) c.in_ok-t-2.ensures.conts))
      (kept_both c.args.cache.now.conts.items.items c.close_on.new.conts.items.items
      c.split_off.new.conts.items.items c.in_ok-reported.ensures.kept c.in_ok-split.ensures.kept);
  states = c.in_ok-t-2.ensures.is.grown;
}

pub returns-clause-is : goal.returns-clause-is
returns-clause-is c =
    lead_made c.args.tables.now c.args.cache.now.conts.items.items c.close_on.new.conts.items.items
    c.split_off.new.conts.items.items c.state_of-2.new.cache.conts.items.items c.args.cache.now.states.items
    c.state_of-2.new.cache.states.items c.args.cache.now.ids.items.items c.in_ok-kept.kept.tops.items
    c.in_ok-kept.kept.ended c.in_ok-t-2.t c.requires.within c.in_ok-split.ensures.kept
    (ap (λ v. v.items.items) c.in_ok-t-2.ensures.conts) c.in_ok-t-2.ensures.is
    (closes_pruned c.args.tables.now c.args.cache.now.conts.items.items c.args.cache.now.ids.items.items
    c.close_on.new.conts.items.items c.in-Some.closure.tops.items c.in_ok-kept.kept.tops.items
    c.in-Some.closure.ended c.in_ok-kept.kept.ended
    (subst (λ v. IfSome v (λ closure. AreClosedTops c.args.tables.now c.args.cache.now.conts.items.items
    c.args.cache.now.ids.items.items c.close_on.new.conts.items.items closure.tops.items closure.ended)) c.in-Some.is
    c.in_ok-reported.ensures.is) c.in_ok-kept.ensures.kept c.in_ok-kept.ensures.ended)
