use Rattle.std.proofs.Common.{◌≡◌, ◌∙◌, [], ap, arith, refl, subst, sym}
use Rattle.std.proofs.lemmas.Option.{slice_get-get_or}
use Rattle.std.specs.Prelude.{Contains, Some, slice_get}
use Rattle.lazydfa.specs.Conts.{AreKept, LedBy, ReadsFrom}
use Rattle.lazydfa.specs.NameWalks.{AddsParts, IsWalkedOver, WalkGoes}
use Rattle.lazydfa.specs.StackSuffixes.{AreSuffixes, below_of}
use Rattle.flatgrammar.specs.Stacks.{Lifted}
use Rattle.lazydfa.proofs.AreCachedLemmas.{cached_conts, grown_same}
use Rattle.lazydfa.proofs.AreTransitionsLemmas.{memo_kept}
use Rattle.lazydfa.proofs.AwaitedLemmas.{parts_read, read_ids}
use Rattle.lazydfa.proofs.ContsLemmas.{kept_both}
use Rattle.lazydfa.proofs.IsOverLemmas.{suffixes_kept}
use Rattle.lazydfa.proofs.awaited.parts_after.Goals as goal

pub read_all-requires-clause-within : goal.read_all-requires-clause-within
read_all-requires-clause-within c = λ id h.
    c.requires.memo.1.cached.within c.args.state c.index.result.now
    (slice_get-get_or c.args.memo.now.cache.states.items c.args.state c.index.result.now
    (let l = c.len.ensures in let t = c.if-state-len.false in omega (arith, l, t))
    ∙ ap (λ v. Some v) (sym c.index.ensures)) id (subst (λ v. Contains v id) c.as_slice-tops.ensures.value h)

pub walk_down-requires-clause-within : goal.walk_down-requires-clause-within
walk_down-requires-clause-within c =
    read_ids c.args.tables.now c.args.value c.args.memo.now.cache.conts.items.items c.read_all.new.conts.items.items
    c.as_slice-tops.result.now c.args.memo.now.suffixes.items c.empty.new.ids.items.items
    c.read_all.new.ids.items.items c.in_ok-read_all.ensures.kept c.empty.ensures c.in_ok-read_all.ensures.adds

pub walk_down-requires-clause-suffixes : goal.walk_down-requires-clause-suffixes
walk_down-requires-clause-suffixes c =
    suffixes_kept c.args.memo.now.cache.conts.items.items c.read_all.new.conts.items.items
    c.in_ok-read_all.ensures.kept c.deref.result.now
    (subst (λ v. AreSuffixes c.args.memo.now.cache.conts.items.items v) (sym c.deref.ensures.value)
    c.requires.suffixes)

pub returns-then-whole-clause-memo : goal.returns-then-whole-clause-memo
returns-then-whole-clause-memo c = λ samples is.
    let kept : AreKept c.args.memo.now.cache.conts.items.items c.walk_down.new.conts.items.items =
    kept_both _ _ _ c.in_ok-read_all.ensures.kept c.in_ok-whole.ensures.kept in
    memo_kept c.args.tables.now samples c.args.memo.now _ is
    (cached_conts c.args.tables.now samples c.args.memo.now.cache.conts.items.items c.walk_down.new.conts.items.items
    c.args.memo.now.cache.states.items c.args.memo.now.cache.cells.items kept is.cached)
    (record { conts = kept; states = grown_same c.args.memo.now.cache.states.items }) refl refl refl

pub returns-else-whole-clause-memo : goal.returns-else-whole-clause-memo
returns-else-whole-clause-memo c = λ samples is.
    let kept : AreKept c.args.memo.now.cache.conts.items.items c.walk_down.new.conts.items.items =
    kept_both _ _ _ c.in_ok-read_all.ensures.kept c.in_ok-whole.ensures.kept in
    memo_kept c.args.tables.now samples c.args.memo.now _ is
    (cached_conts c.args.tables.now samples c.args.memo.now.cache.conts.items.items c.walk_down.new.conts.items.items
    c.args.memo.now.cache.states.items c.args.memo.now.cache.cells.items kept is.cached)
    (record { conts = kept; states = grown_same c.args.memo.now.cache.states.items }) refl refl refl

pub returns-then-whole-clause-parts : goal.returns-then-whole-clause-parts
returns-then-whole-clause-parts c = λ got there.
    let at_state : slice_get c.args.memo.now.cache.states.items c.args.state ≡ Some c.index.result.now =
    slice_get-get_or c.args.memo.now.cache.states.items c.args.state c.index.result.now
    (let l = c.len.ensures in let t = c.if-state-len.false in omega (arith, l, t))
    ∙ ap (λ v. Some v) (sym c.index.ensures) in
    let both : Some c.index.result.now ≡ Some got = sym at_state ∙ there in
    let same : c.index.result.now ≡ got = cc both in
    subst (λ v. AddsParts c.args.tables.now (λ w. LedBy (WalkGoes c.args.tables.now)
    (Lifted (ReadsFrom c.args.tables.now c.args.value c.args.memo.now.cache.conts.items.items v)
    (below_of c.args.memo.now.cache.conts.items.items c.args.memo.now.suffixes.items)) w) []
    c.walk_down.new.parts.items)
    (c.as_slice-tops.ensures.value ∙ ap (λ v. v.tops.items) same)
    (parts_read c.args.tables.now c.args.value c.args.memo.now.cache.conts.items.items
    c.read_all.new.conts.items.items c.as_slice-tops.result.now c.args.memo.now.suffixes.items
    c.empty.new.ids.items.items c.read_all.new.ids.items.items c.in_ok-read_all.ensures.kept c.empty.ensures
    c.in_ok-read_all.ensures.adds c.walk_down.new.parts.items c.new-parts.result.items c.new-parts.ensures.items
    c.requires.suffixes
    (subst (λ v. AddsParts c.args.tables.now (IsWalkedOver c.args.tables.now c.read_all.new.conts.items.items
    c.read_all.new.ids.items.items v) c.new-parts.result.items c.walk_down.new.parts.items) c.deref.ensures.value
    (c.in_ok-whole.ensures.parts c.if-whole.true)))
