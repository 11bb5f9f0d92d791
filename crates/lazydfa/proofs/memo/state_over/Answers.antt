use Rattle.std.proofs.Common.{◌≡◌, refl, subst, sym, ◌∙◌, ap, arith, Some, false}
use Rattle.std.proofs.lemmas.Option.{slice_get-get_or}
use Rattle.std.specs.Prelude.{slice_get, Contains, IfSome}
use Rattle.lazydfa.specs.Conts.{AreKept}
use Rattle.lazydfa.specs.StackSuffixes.{IsSplitOff, PutsBack}
use Rattle.lazydfa.proofs.ContsLemmas.{kept_both, kept_within}
use Rattle.lazydfa.proofs.AreCachedLemmas.{cached_conts, grown_cached}
use Rattle.lazydfa.proofs.IsOverLemmas.{resume_made, resume_split}
use Rattle.lazydfa.proofs.memo.state_over.Goals as goal

pub put_back-requires-clause-within : goal.put_back-requires-clause-within
put_back-requires-clause-within c id h =
    c.requires.cached.within c.args.state c.index.result.now
    (slice_get-get_or c.args.cache.now.states.items c.args.state c.index.result.now
    (let l = c.len.ensures in let t = c.if-state-len.false in omega (arith, l, t))
    ∙ ap (λ v. Some v) (sym c.index.ensures)) id (subst (λ v. Contains v id) c.as_slice-tops.ensures.value h)

pub returns-in_default-clause-cached : goal.returns-in_default-clause-cached
returns-in_default-clause-cached c =
    cached_conts c.args.tables.now c.args.samples.now c.args.cache.now.conts.items.items
    c.put_back.new.conts.items.items c.args.cache.now.states.items c.args.cache.now.cells.items
    c.in_ok-reported.ensures.kept c.requires.cached

pub split_off-requires-clause-within : goal.split_off-requires-clause-within
split_off-requires-clause-within c = λ id h.
    let reported = subst (λ v. IfSome v (λ closure. PutsBack c.args.tables.now c.args.cache.now.conts.items.items
    c.as_slice-tops.result.now c.args.suffix c.put_back.new.conts.items.items closure.tops.items closure.ended))
    c.in-Some.is c.in_ok-reported.ensures.is in
    reported.within id h

pub split_off-requires-clause-older : goal.split_off-requires-clause-older
split_off-requires-clause-older c = c.in_ok-reported.ensures.kept.older c.requires.cached.older

pub returns-in-Some-2-clause-cached : goal.returns-in-Some-2-clause-cached
returns-in-Some-2-clause-cached c =
    let split = subst (λ v. IfSome v (λ split. IsSplitOff c.args.tables.now c.split_off.new.conts.items.items
    c.in-Some.closure.tops.items split.tops.items split.suffix)) c.in-Some-2.is c.in_ok-split.ensures.is in
    grown_cached c.args.tables.now c.args.samples.now c.args.cache.now.conts.items.items
    c.split_off.new.conts.items.items c.state_of.new.cache.conts.items.items c.args.cache.now.states.items
    c.state_of.new.cache.states.items c.args.cache.now.cells.items c.state_of.new.cache.cells.items
    c.index.result.now c.in-Some-2.split.tops.items false c.args.state c.in_ok-to.to c.requires.cached
    (kept_both c.args.cache.now.conts.items.items c.put_back.new.conts.items.items
    c.split_off.new.conts.items.items c.in_ok-reported.ensures.kept c.in_ok-split.ensures.kept)
    (ap (λ v. v.items.items) c.in_ok-to.ensures.conts) c.in_ok-to.ensures.is c.in_ok-to.ensures.cells
    (slice_get-get_or c.args.cache.now.states.items c.args.state c.index.result.now
    (let l = c.len.ensures in let t = c.if-state-len.false in omega (arith, l, t))
    ∙ ap (λ v. Some v) (sym c.index.ensures)) split.base_within

pub returns-in-Some-2-clause-grows : goal.returns-in-Some-2-clause-grows
returns-in-Some-2-clause-grows c = record {
  conts = subst (λ v. AreKept c.args.cache.now.conts.items.items v)
      (sym (ap (λ v. v.items.items) c.in_ok-to.ensures.conts))
      (kept_both c.args.cache.now.conts.items.items c.put_back.new.conts.items.items
      c.split_off.new.conts.items.items c.in_ok-reported.ensures.kept c.in_ok-split.ensures.kept);
  states = c.in_ok-to.ensures.is.grown;
}

pub returns-in-Some-2-clause-is : goal.returns-in-Some-2-clause-is
returns-in-Some-2-clause-is c =
    let at_s : slice_get c.args.cache.now.states.items c.args.state ≡ Some c.index.result.now =
    slice_get-get_or c.args.cache.now.states.items c.args.state c.index.result.now
    (let l = c.len.ensures in let t = c.if-state-len.false in omega (arith, l, t))
    ∙ ap (λ v. Some v) (sym c.index.ensures) in
    let reported = subst (λ v. IfSome v (λ closure. PutsBack c.args.tables.now c.args.cache.now.conts.items.items
    c.as_slice-tops.result.now c.args.suffix c.put_back.new.conts.items.items closure.tops.items closure.ended))
    c.in-Some.is c.in_ok-reported.ensures.is in
    let split = subst (λ v. IfSome v (λ split. IsSplitOff c.args.tables.now c.split_off.new.conts.items.items
    c.in-Some.closure.tops.items split.tops.items split.suffix)) c.in-Some-2.is c.in_ok-split.ensures.is in (
      refl,
      refl,
      resume_split c.args.tables.now c.args.cache.now.conts.items.items c.put_back.new.conts.items.items
          c.split_off.new.conts.items.items c.state_of.new.cache.conts.items.items c.args.cache.now.states.items
          c.state_of.new.cache.states.items c.index.result.now c.as_slice-tops.result.now c.in-Some.closure.tops.items
          c.in-Some.closure.ended c.args.state c.args.suffix c.in_ok-to.to c.in-Some-2.split.suffix
          (c.requires.cached.within c.args.state c.index.result.now at_s)
          (let l = c.len-2.ensures in let t = c.if-suffix-len.false in omega (arith, l, t))
          c.in_ok-reported.ensures.kept
          c.in_ok-split.ensures.kept
          (ap (λ v. v.items.items) c.in_ok-to.ensures.conts) at_s c.as_slice-tops.ensures.value
          reported c.in-Some-2.split.tops.items
          (subst (λ v. IfSome v (λ split. c.in-Some.closure.ended ≡ false))
          c.in-Some-2.is c.in_ok-split.ensures.running)
          split c.in_ok-to.ensures.is,
    )

pub returns-clause-cached : goal.returns-clause-cached
returns-clause-cached c =
    let reported = subst (λ v. IfSome v (λ closure. PutsBack c.args.tables.now c.args.cache.now.conts.items.items
    c.as_slice-tops.result.now c.args.suffix c.put_back.new.conts.items.items closure.tops.items closure.ended))
    c.in-Some.is c.in_ok-reported.ensures.is in
    grown_cached c.args.tables.now c.args.samples.now c.args.cache.now.conts.items.items
    c.split_off.new.conts.items.items c.state_of-2.new.cache.conts.items.items c.args.cache.now.states.items
    c.state_of-2.new.cache.states.items c.args.cache.now.cells.items c.state_of-2.new.cache.cells.items
    c.index.result.now c.in-Some.closure.tops.items c.in-Some.closure.ended c.args.state c.in_ok-to-2.to
    c.requires.cached
    (kept_both c.args.cache.now.conts.items.items c.put_back.new.conts.items.items
    c.split_off.new.conts.items.items c.in_ok-reported.ensures.kept c.in_ok-split.ensures.kept)
    (ap (λ v. v.items.items) c.in_ok-to-2.ensures.conts) c.in_ok-to-2.ensures.is c.in_ok-to-2.ensures.cells
    (slice_get-get_or c.args.cache.now.states.items c.args.state c.index.result.now
    (let l = c.len.ensures in let t = c.if-state-len.false in omega (arith, l, t))
    ∙ ap (λ v. Some v) (sym c.index.ensures))
    (λ id h. kept_within c.put_back.new.conts.items.items c.split_off.new.conts.items.items
    c.in_ok-split.ensures.kept id (reported.within id h))

pub returns-clause-grows : goal.returns-clause-grows
returns-clause-grows c = record {
  conts = subst (λ v. AreKept c.args.cache.now.conts.items.items v)
      (sym (ap (λ v. v.items.items) c.in_ok-to-2.ensures.conts))
      (kept_both c.args.cache.now.conts.items.items c.put_back.new.conts.items.items
      c.split_off.new.conts.items.items c.in_ok-reported.ensures.kept c.in_ok-split.ensures.kept);
  states = c.in_ok-to-2.ensures.is.grown;
}

pub returns-clause-is : goal.returns-clause-is
returns-clause-is c =
    let at_s : slice_get c.args.cache.now.states.items c.args.state ≡ Some c.index.result.now =
    slice_get-get_or c.args.cache.now.states.items c.args.state c.index.result.now
    (let l = c.len.ensures in let t = c.if-state-len.false in omega (arith, l, t))
    ∙ ap (λ v. Some v) (sym c.index.ensures) in
    let reported = subst (λ v. IfSome v (λ closure. PutsBack c.args.tables.now c.args.cache.now.conts.items.items
    c.as_slice-tops.result.now c.args.suffix c.put_back.new.conts.items.items closure.tops.items closure.ended))
    c.in-Some.is c.in_ok-reported.ensures.is in (
      refl,
      refl,
      resume_made c.args.tables.now c.args.cache.now.conts.items.items c.put_back.new.conts.items.items
          c.split_off.new.conts.items.items c.state_of-2.new.cache.conts.items.items c.args.cache.now.states.items
          c.state_of-2.new.cache.states.items c.index.result.now c.as_slice-tops.result.now c.in-Some.closure.tops.items
          c.in-Some.closure.ended c.args.state c.args.suffix c.in_ok-to-2.to 0
          (c.requires.cached.within c.args.state c.index.result.now at_s)
          (let l = c.len-2.ensures in let t = c.if-suffix-len.false in omega (arith, l, t))
          c.in_ok-reported.ensures.kept
          c.in_ok-split.ensures.kept (ap (λ v. v.items.items) c.in_ok-to-2.ensures.conts) at_s
          c.as_slice-tops.ensures.value reported refl c.in_ok-to-2.ensures.is,
    )
