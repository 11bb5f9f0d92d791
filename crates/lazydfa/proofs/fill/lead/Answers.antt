use Rattle.std.proofs.Common.{◌≡◌, ℕ, get_or, refl, subst, sym, ◌∙◌, ap, arith}
use Rattle.std.specs.Prelude.{Contains, Some, slice_get}
use Rattle.std.proofs.lemmas.Option.{slice_get-get_or, get_or_from_slice_get}
use Rattle.lazydfa.specs.Cached.{Grows, IsCell}
use Rattle.lazydfa.specs.Conts.{ReadsFrom}
use Rattle.lazydfa.specs.Kernels.{IsLeadCell}
use Rattle.lazydfa.proofs.AreCachedLemmas.{cached_conts, grown_same}
use Rattle.lazydfa.proofs.AreTransitionsLemmas.{memo_kept}
use Rattle.lazydfa.proofs.ContsLemmas.{kept_same}
use Rattle.lazydfa.proofs.KernelsLemmas.{lead_cell, none_read, ok_both}
use Rattle.lazydfa.proofs.TransitionLemmas.{read_within}
use Rattle.lazydfa.proofs.fill.lead.Goals as goal

pub read_all-requires-clause-within : goal.read_all-requires-clause-within
read_all-requires-clause-within c id h =
    c.requires.memo.cached.within c.args.state c.index.result.now
    (slice_get-get_or c.args.memo.now.cache.states.items c.args.state c.index.result.now
    (let l = c.len.ensures in let t = c.if-state-len.false in omega (arith, l, t))
    ∙ ap (λ v. Some v) (sym c.index.ensures)) id (subst (λ v. Contains v id) c.as_slice-tops.ensures.value h)

pub returns-then-len-eq0-clause-memo : goal.returns-then-len-eq0-clause-memo
returns-then-len-eq0-clause-memo c =
    memo_kept c.args.tables.now c.args.samples.now c.args.memo.now
    (record c.args.memo.now {
      cache = record c.args.memo.now.cache { conts = c.read_all.new.conts; ids = c.read_all.new.ids };
    }) c.requires.memo
    (cached_conts c.args.tables.now c.args.samples.now c.args.memo.now.cache.conts.items.items
    c.read_all.new.conts.items.items c.args.memo.now.cache.states.items c.args.memo.now.cache.cells.items
    c.in_ok-read_all.ensures.kept c.requires.memo.cached)
    (record { conts = c.in_ok-read_all.ensures.kept; states = grown_same c.args.memo.now.cache.states.items })
    refl refl refl

pub returns-then-len-eq0-clause-is : goal.returns-then-len-eq0-clause-is
returns-then-len-eq0-clause-is c = λ d sample.
    let at_s : slice_get c.args.memo.now.cache.states.items c.args.state ≡ Some c.index.result.now =
    slice_get-get_or c.args.memo.now.cache.states.items c.args.state c.index.result.now
    (let l = c.len.ensures in let t = c.if-state-len.false in omega (arith, l, t))
    ∙ ap (λ v. Some v) (sym c.index.ensures) in
    record {
      from = c.index.result.now;
      from_is = at_s;
      none = λ stack r.
          none_read c.args.tables.now (get_or c.args.samples.now c.args.class 0)
          c.args.memo.now.cache.conts.items.items c.read_all.new.conts.items.items c.read_all.new.conts.items.items
          c.as_slice-tops.result.now c.empty.new.ids.items.items c.read_all.new.ids.items.items c.empty.ensures
          c.in_ok-read_all.ensures.kept (kept_same c.read_all.new.conts.items.items)
          (λ id h. c.requires.memo.cached.within c.args.state c.index.result.now at_s id
          (subst (λ v. Contains v id) c.as_slice-tops.ensures.value h)) c.in_ok-read_all.ensures.adds
          (let l = c.len-2.ensures in let t = c.if-len-eq0.true in omega (arith, l, t)) stack
          (subst (λ v. ReadsFrom c.args.tables.now v c.read_all.new.conts.items.items c.as_slice-tops.result.now stack)
          (sym (get_or_from_slice_get c.args.samples.now c.args.class d 0 sample))
          (subst (λ v. ReadsFrom c.args.tables.now d c.read_all.new.conts.items.items v stack)
          (sym c.as_slice-tops.ensures.value) r));
    }

pub lead_on-requires-clause-memo : goal.lead_on-requires-clause-memo
lead_on-requires-clause-memo c =
    memo_kept c.args.tables.now c.args.samples.now c.args.memo.now
    (record c.args.memo.now {
      cache = record c.args.memo.now.cache { conts = c.read_all.new.conts; ids = c.read_all.new.ids };
    }) c.requires.memo
    (cached_conts c.args.tables.now c.args.samples.now c.args.memo.now.cache.conts.items.items
    c.read_all.new.conts.items.items c.args.memo.now.cache.states.items c.args.memo.now.cache.cells.items
    c.in_ok-read_all.ensures.kept c.requires.memo.cached)
    (record { conts = c.in_ok-read_all.ensures.kept; states = grown_same c.args.memo.now.cache.states.items })
    refl refl refl

pub lead_on-requires-clause-within : goal.lead_on-requires-clause-within
lead_on-requires-clause-within c =
    read_within c.args.tables.now (get_or c.args.samples.now c.args.class 0) c.args.memo.now.cache.conts.items.items _
    c.as_slice-tops.result.now _ _ c.empty.ensures c.in_ok-read_all.ensures.adds

pub returns-clause-is : goal.returns-clause-is
returns-clause-is c =
    let at_s : slice_get c.args.memo.now.cache.states.items c.args.state ≡ Some c.index.result.now =
    slice_get-get_or c.args.memo.now.cache.states.items c.args.state c.index.result.now
    (let l = c.len.ensures in let t = c.if-state-len.false in omega (arith, l, t))
    ∙ ap (λ v. Some v) (sym c.index.ensures) in
    ok_both (IsLeadCell c.args.tables.now c.read_all.new.conts.items.items c.read_all.new.ids.items.items
    c.lead_on.new.memo.cache.conts.items.items c.lead_on.new.memo.cache.states.items)
    (λ cell. Grows (record c.args.memo.now.cache { conts = c.read_all.new.conts; ids = c.read_all.new.ids })
    c.lead_on.new.memo.cache)
    (λ cell. (d : ℕ) → slice_get c.args.samples.now c.args.class ≡ Some d → IsCell c.args.tables.now d
    c.lead_on.new.memo.cache.conts.items.items c.lead_on.new.memo.cache.states.items c.args.state cell)
    c.lead_on.result c.lead_on.ensures.is c.lead_on.ensures.grows (λ cell lead grows d sample.
    subst (λ v. IsCell c.args.tables.now v c.lead_on.new.memo.cache.conts.items.items
    c.lead_on.new.memo.cache.states.items c.args.state cell)
    (get_or_from_slice_get c.args.samples.now c.args.class d 0 sample)
    (lead_cell c.args.tables.now (get_or c.args.samples.now c.args.class 0)
    c.args.memo.now.cache.conts.items.items c.read_all.new.conts.items.items
    c.lead_on.new.memo.cache.conts.items.items c.as_slice-tops.result.now c.empty.new.ids.items.items
    c.read_all.new.ids.items.items c.empty.ensures c.in_ok-read_all.ensures.kept grows.conts
    (λ id h. c.requires.memo.cached.within c.args.state c.index.result.now at_s id
    (subst (λ v. Contains v id) c.as_slice-tops.ensures.value h)) c.in_ok-read_all.ensures.adds
    c.args.memo.now.cache.states.items c.lead_on.new.memo.cache.states.items c.index.result.now c.args.state cell
    grows.states at_s c.as_slice-tops.ensures.value
    (let l = c.len-2.ensures in let t = c.if-len-eq0.false in omega (arith, l, t)) lead))
