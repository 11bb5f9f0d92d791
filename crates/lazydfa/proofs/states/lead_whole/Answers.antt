use Rattle.std.proofs.Common.{◌≡◌, sym, ◌∙◌, ap, arith, subst, []}
use Rattle.std.specs.Prelude.{Contains, IfSome, Some, slice_get}
use Rattle.std.proofs.lemmas.Option.{slice_get-get_or}
use Rattle.lazydfa.specs.Cached.{Grows}
use Rattle.lazydfa.specs.Kernels.{IsWholeLeadTo}
use Rattle.lazydfa.specs.StateSets.{IsLed}
use Rattle.lazydfa.proofs.AreCachedLemmas.{cached_conts, grown_same}
use Rattle.lazydfa.proofs.ContsLemmas.{kept_both}
use Rattle.lazydfa.proofs.KernelsLemmas.{ok_both, ok_then, some_then, wholes_grown}
use Rattle.lazydfa.proofs.StateSetsLemmas.{led_whole}
use Rattle.lazydfa.proofs.TransitionLemmas.{read_within}
use Rattle.lazydfa.proofs.states.lead_whole.Goals as goal

pub read_all-requires-clause-within : goal.read_all-requires-clause-within
read_all-requires-clause-within c id h =
    c.requires.cached.within c.args.state c.index.result.now
    (slice_get-get_or c.args.cache.now.states.items c.args.state c.index.result.now
    (let l = c.len.ensures in let t = c.if-state-len.false in omega (arith, l, t))
    ∙ ap (λ v. Some v) (sym c.index.ensures)) id (subst (λ v. Contains v id) c.as_slice-tops.ensures.value h)

pub close_whole-requires-clause-cached : goal.close_whole-requires-clause-cached
close_whole-requires-clause-cached c =
    cached_conts c.args.tables.now [] c.args.cache.now.conts.items.items c.read_all.new.conts.items.items
    c.args.cache.now.states.items c.args.cache.now.cells.items c.in_ok-read_all.ensures.kept c.requires.cached

pub close_whole-requires-clause-leads : goal.close_whole-requires-clause-leads
close_whole-requires-clause-leads c =
    wholes_grown c.args.tables.now c.args.cache.now.conts.items.items c.read_all.new.conts.items.items
    c.args.cache.now.states.items c.args.cache.now.states.items c.args.leads.now.items.items
    c.in_ok-read_all.ensures.kept (grown_same c.args.cache.now.states.items) c.requires.leads

pub close_whole-requires-clause-within : goal.close_whole-requires-clause-within
close_whole-requires-clause-within c =
    read_within c.args.tables.now c.args.value c.args.cache.now.conts.items.items _ c.as_slice-tops.result.now _ _
    c.empty.ensures c.in_ok-read_all.ensures.adds

pub close_whole-requires-clause-begun : goal.close_whole-requires-clause-begun
close_whole-requires-clause-begun c =
    let l = c.len.ensures in let t = c.if-state-len.false in omega (arith, l, t)

pub returns-clause-grows : goal.returns-clause-grows
returns-clause-grows c =
    ok_then (λ reported. Grows (record c.args.cache.now { conts = c.read_all.new.conts; ids = c.read_all.new.ids })
    c.close_whole.new.cache) (λ reported. Grows c.args.cache.now c.close_whole.new.cache) c.close_whole.result
    c.close_whole.ensures.grows (λ reported grows. record {
      conts = kept_both c.args.cache.now.conts.items.items c.read_all.new.conts.items.items
          c.close_whole.new.cache.conts.items.items c.in_ok-read_all.ensures.kept grows.conts;
      states = grows.states;
    })

pub returns-clause-is : goal.returns-clause-is
returns-clause-is c =
    let at_s : slice_get c.args.cache.now.states.items c.args.state ≡ Some c.index.result.now =
    slice_get-get_or c.args.cache.now.states.items c.args.state c.index.result.now
    (let l = c.len.ensures in let t = c.if-state-len.false in omega (arith, l, t))
    ∙ ap (λ v. Some v) (sym c.index.ensures) in
    let new = c.close_whole.new.cache in
    ok_both (λ reported. IfSome reported (IsWholeLeadTo c.args.tables.now c.read_all.new.conts.items.items
    c.read_all.new.ids.items.items new.conts.items.items new.states.items))
    (λ reported. Grows (record c.args.cache.now { conts = c.read_all.new.conts; ids = c.read_all.new.ids }) new)
    (λ reported. IfSome reported (IsLed c.args.tables.now c.args.value new.conts.items.items new.states.items
    c.args.state)) c.close_whole.result c.close_whole.ensures.is c.close_whole.ensures.grows
    (λ reported leads grows. some_then _ _ reported leads (λ t lead.
    led_whole c.args.tables.now c.args.cache.now.conts.items.items c.read_all.new.conts.items.items
    new.conts.items.items c.args.cache.now.states.items new.states.items c.index.result.now
    c.as_slice-tops.result.now c.empty.new.ids.items.items c.read_all.new.ids.items.items c.args.state t c.args.value
    (c.requires.cached.within c.args.state c.index.result.now at_s) c.in_ok-read_all.ensures.kept grows.conts
    grows.states at_s c.as_slice-tops.ensures.value c.empty.ensures c.in_ok-read_all.ensures.adds lead))
