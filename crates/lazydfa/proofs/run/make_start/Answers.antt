use Rattle.std.proofs.Common.{subst, ap, arith}
use Rattle.std.proofs.lemmas.Option.{slice_get_within}
use Rattle.std.specs.Prelude.{IfSome}
use Rattle.lazydfa.specs.Cached.{IsStart}
use Rattle.lazydfa.proofs.AreCachedLemmas.{cached_conts}
use Rattle.lazydfa.proofs.IsAtLemmas.{first_at, begun_cached}
use Rattle.lazydfa.proofs.run.make_start.Goals as goal

pub returns-in_default-clause-cached : goal.returns-in_default-clause-cached
returns-in_default-clause-cached c =
    cached_conts c.args.tables.now c.args.samples.now c.args.cache.now.conts.items.items
    c.first_closure.new.conts.items.items c.args.cache.now.states.items c.args.cache.now.cells.items
    c.in_ok-reported.ensures.kept c.requires.cached

pub returns-clause-cached : goal.returns-clause-cached
returns-clause-cached c =
    begun_cached c.args.tables.now c.args.samples.now c.args.cache.now.conts.items.items
    c.first_closure.new.conts.items.items c.state_of.new.cache.conts.items.items c.args.cache.now.states.items
    c.state_of.new.cache.states.items c.args.cache.now.cells.items c.state_of.new.cache.cells.items
    c.in-Some.closure.tops.items c.in-Some.closure.ended c.in_ok-state_of.field-0 c.requires.cached
    c.in_ok-reported.ensures.kept
    (ap (λ v. v.items.items) c.in_ok-state_of.ensures.conts) c.in_ok-state_of.ensures.is c.in_ok-state_of.ensures.cells
    (subst (λ v. IfSome v (λ closure. IsStart c.args.tables.now c.first_closure.new.conts.items.items closure.tops.items
    closure.ended)) c.in-Some.is c.in_ok-reported.ensures.is)

pub returns-clause-is : goal.returns-clause-is
returns-clause-is c = λ made.
    let cached =
    begun_cached c.args.tables.now c.args.samples.now c.args.cache.now.conts.items.items
    c.first_closure.new.conts.items.items c.state_of.new.cache.conts.items.items c.args.cache.now.states.items
    c.state_of.new.cache.states.items c.args.cache.now.cells.items c.state_of.new.cache.cells.items
    c.in-Some.closure.tops.items c.in-Some.closure.ended c.in_ok-state_of.field-0 c.requires.cached
    c.in_ok-reported.ensures.kept
    (ap (λ v. v.items.items) c.in_ok-state_of.ensures.conts) c.in_ok-state_of.ensures.is c.in_ok-state_of.ensures.cells
    (subst (λ v. IfSome v (λ closure. IsStart c.args.tables.now c.first_closure.new.conts.items.items closure.tops.items
    closure.ended)) c.in-Some.is c.in_ok-reported.ensures.is) in
    let at = c.in_ok-state_of.ensures.is.is.is in
    first_at c.args.tables.now c.args.samples.now c.state_of.new.cache.conts.items.items
    c.state_of.new.cache.states.items c.state_of.new.cache.cells.items cached
    (let lt = slice_get_within c.state_of.new.cache.states.items c.in_ok-state_of.field-0
    c.in_ok-state_of.ensures.is.is.state at in
    omega (arith, lt))
