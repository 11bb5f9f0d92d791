use Rattle.std.proofs.Common.{◌≡◌, ◌≤◌, ℕ, length, subst, sym, ◌∙◌, ap, arith}
use Rattle.std.proofs.lemmas.Option.{slice_get-get_or}
use Rattle.std.specs.Prelude.{Contains, IfSome, Some, [], slice_get}
use Rattle.lazydfa.specs.Cached.{IsInterned}
use Rattle.lazydfa.specs.StackCuts.{IsCutAt, IsCutOff}
use Rattle.lazydfa.proofs.ContsLemmas.{kept_same}
use Rattle.lazydfa.proofs.AreCachedLemmas.{cached_conts, grown_at, grown_cached}
use Rattle.lazydfa.proofs.StackCutsLemmas.{is_cut_at, reordered_within}
use Rattle.lazydfa.proofs.cuts.cut_whole.Goals as goal

pub returns-in_default-2-clause-cached : goal.returns-in_default-2-clause-cached
returns-in_default-2-clause-cached c =
    cached_conts c.args.tables.now [] c.args.cache.now.conts.items.items c.cut_off.new.conts.items.items
    c.args.cache.now.states.items c.args.cache.now.cells.items c.in_ok-cut.ensures.kept c.requires.cached

pub returns-then-not-is_same-clause-cached : goal.returns-then-not-is_same-clause-cached
returns-then-not-is_same-clause-cached c =
    cached_conts c.args.tables.now [] c.args.cache.now.conts.items.items c.cut_off.new.conts.items.items
    c.args.cache.now.states.items c.args.cache.now.cells.items c.in_ok-cut.ensures.kept c.requires.cached

pub returns-clause-cached : goal.returns-clause-cached
returns-clause-cached c =
    let at_s : slice_get c.args.cache.now.states.items c.args.state ≡ Some c.index.result.now =
    slice_get-get_or c.args.cache.now.states.items c.args.state c.index.result.now
    (let l = c.len.ensures in let t = c.if-state-len.false in omega (arith, l, t))
    ∙ ap (λ v. Some v) (sym c.index.ensures) in
    let cut = subst (λ v. IfSome v (λ cut. IsCutOff c.args.tables.now c.cut_off.new.conts.items.items
    c.in-Some.found.suffixes.items cut.joined.items cut.tops.items cut.below.tops.items cut.below.ended))
    c.in-Some-2.is c.in_ok-cut.ensures.is in
    let first = grown_cached c.args.tables.now [] c.args.cache.now.conts.items.items c.cut_off.new.conts.items.items
    c.state_of.new.cache.conts.items.items c.args.cache.now.states.items c.state_of.new.cache.states.items
    c.args.cache.now.cells.items c.state_of.new.cache.cells.items c.index.result.now
    c.in_order-tops.result.tops.items c.in_order-tops.result.ended c.args.state c.in_ok-tops.tops c.requires.cached
    c.in_ok-cut.ensures.kept (ap (λ v. v.items.items) c.in_ok-tops.ensures.conts) c.in_ok-tops.ensures.is
    c.in_ok-tops.ensures.cells at_s
    (reordered_within c.in-Some-2.cut.tops.items c.in_order-tops.result.tops.items c.in_order-tops.ensures.tops
    c.cut_off.new.conts.items.items cut.tops_within) in
    grown_cached c.args.tables.now [] c.state_of.new.cache.conts.items.items c.state_of.new.cache.conts.items.items
    c.state_of-2.new.cache.conts.items.items c.state_of.new.cache.states.items c.state_of-2.new.cache.states.items
    c.state_of.new.cache.cells.items c.state_of-2.new.cache.cells.items c.index.result.now
    c.in_order.result.tops.items c.in_order.result.ended c.args.state c.in_ok-below.below first
    (kept_same c.state_of.new.cache.conts.items.items) (ap (λ v. v.items.items) c.in_ok-below.ensures.conts)
    c.in_ok-below.ensures.is c.in_ok-below.ensures.cells
    (grown_at c.args.cache.now.states.items c.state_of.new.cache.states.items c.in_ok-tops.ensures.is.grown
    c.args.state c.index.result.now at_s)
    (subst (λ v. (id : ℕ) → Contains c.in_order.result.tops.items id → id ≤ length v)
    (sym (ap (λ v. v.items.items) c.in_ok-tops.ensures.conts))
    (reordered_within c.in-Some-2.cut.below.tops.items c.in_order.result.tops.items c.in_order.ensures.tops
    c.cut_off.new.conts.items.items cut.below_within))

pub returns-clause-is : goal.returns-clause-is
returns-clause-is c =
    let at_s : slice_get c.args.cache.now.states.items c.args.state ≡ Some c.index-2.result.now =
    slice_get-get_or c.args.cache.now.states.items c.args.state c.index-2.result.now
    (let l = c.len.ensures in let t = c.if-state-len.false in omega (arith, l, t))
    ∙ ap (λ v. Some v) (sym c.index-2.ensures) in
    let cut = subst (λ v. IfSome v (λ cut. IsCutOff c.args.tables.now c.cut_off.new.conts.items.items
    c.in-Some.found.suffixes.items cut.joined.items cut.tops.items cut.below.tops.items cut.below.ended))
    c.in-Some-2.is c.in_ok-cut.ensures.is in
    let same = c.is_same.ensures c.if-not-is_same.false in
    subst (λ v. IsCutAt c.args.tables.now v c.state_of-2.new.cache.states.items c.args.state c.in_ok-tops.tops
    c.in_ok-below.below) (sym (ap (λ v. v.items.items) c.in_ok-below.ensures.conts
    ∙ ap (λ v. v.items.items) c.in_ok-tops.ensures.conts))
    (is_cut_at c.args.tables.now c.cut_off.new.conts.items.items c.in-Some.found.suffixes.items
    c.in-Some-2.cut.joined.items c.in_order-whole.result.tops.items c.in-Some-2.cut.tops.items
    c.in_order-tops.result.tops.items c.in-Some-2.cut.below.tops.items c.in_order.result.tops.items
    c.in-Some-2.cut.below.ended c.in_order-whole.ensures.tops c.in_order-tops.ensures.tops c.in_order.ensures.tops cut
    c.args.cache.now.states.items c.state_of.new.cache.states.items c.state_of-2.new.cache.states.items c.args.state
    c.in_ok-tops.tops c.in_ok-below.below c.index-2.result.now at_s
    (same.0 ∙ c.deref-2.ensures.value, same.1)
    (subst (λ v. IsInterned c.args.cache.now.states.items c.state_of.new.cache.states.items
    c.in_order-tops.result.tops.items v c.in_ok-tops.tops) c.in_order-tops.ensures.ended c.in_ok-tops.ensures.is)
    (subst (λ v. IsInterned c.state_of.new.cache.states.items c.state_of-2.new.cache.states.items
    c.in_order.result.tops.items v c.in_ok-below.below) c.in_order.ensures.ended c.in_ok-below.ensures.is))
