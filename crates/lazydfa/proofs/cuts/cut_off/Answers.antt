use Rattle.std.proofs.Common.{subst, sym, ◌∙◌}
use Rattle.std.specs.Prelude.{Contains, IfSome}
use Rattle.lazydfa.specs.Conts.{AreReaders, IsClosure}
use Rattle.lazydfa.specs.StackCuts.{AreJoinedTops}
use Rattle.lazydfa.proofs.ContsLemmas.{kept_both, kept_within}
use Rattle.lazydfa.proofs.IsSplitOffLemmas.{moved_within}
use Rattle.lazydfa.proofs.StackCutsLemmas.{is_cut_off}
use Rattle.lazydfa.proofs.cuts.cut_off.Goals as goal

pub move_all-requires-clause-within : goal.move_all-requires-clause-within
move_all-requires-clause-within c id h =
    (c.are_full.ensures c.if-not-are_full.false id
    (subst (λ v. Contains v id) (c.deref-2.ensures.value ∙ sym c.deref.ensures.value) h)).1

pub all_read-requires-clause-within : goal.all_read-requires-clause-within
all_read-requires-clause-within c id h =
    moved_within c.args.conts.now.items.items c.move_all.new.conts.items.items c.deref-2.result.now
    c.args.found.now.suffix 0 c.new-tops.result.items c.move_all.new.ids.items c.new-tops.ensures.items
    (c.in_ok-move_all.ensures.moved c.if-not-branch.false) id (subst (λ v. Contains v id) c.deref-3.ensures.value h)

pub join_all-requires-clause-tops_within : goal.join_all-requires-clause-tops_within
join_all-requires-clause-tops_within c id h =
    moved_within c.args.conts.now.items.items c.move_all.new.conts.items.items c.deref-2.result.now
    c.args.found.now.suffix 0 c.new-tops.result.items c.move_all.new.ids.items c.new-tops.ensures.items
    (c.in_ok-move_all.ensures.moved c.if-not-branch.false) id (subst (λ v. Contains v id) c.deref-4.ensures.value h)

pub join_all-requires-clause-suffixes_within : goal.join_all-requires-clause-suffixes_within
join_all-requires-clause-suffixes_within c id h =
    kept_within c.args.conts.now.items.items c.move_all.new.conts.items.items c.in_ok-move_all.ensures.kept id
    (c.are_full-else-not-are_full.ensures c.if-not-are_full-2.false id
    (subst (λ v. Contains v id) (c.deref-5.ensures.value ∙ sym c.deref-else-not-are_full.ensures.value) h)).1

pub close-requires-clause-within : goal.close-requires-clause-within
close-requires-clause-within c id h =
    let are = subst (λ v. IfSome v (λ joined. AreJoinedTops c.move_all.new.conts.items.items c.deref-4.result.now
    c.deref-5.result.now c.join_all.new.conts.items.items c.join_all.new.ids.items.items joined.items)) c.in-Some.is
    c.in_ok-joined.ensures.joined in
    kept_within c.args.conts.now.items.items c.join_all.new.conts.items.items
    (kept_both c.args.conts.now.items.items c.move_all.new.conts.items.items c.join_all.new.conts.items.items
    c.in_ok-move_all.ensures.kept c.in_ok-joined.ensures.kept) id
    (c.are_full-else-not-are_full.ensures c.if-not-are_full-2.false id
    (subst (λ v. Contains v id) (c.deref-5.ensures.value ∙ sym c.deref-else-not-are_full.ensures.value)
    ((are.ids_are id).0 h))).1

pub returns-in_default-2-clause-kept : goal.returns-in_default-2-clause-kept
returns-in_default-2-clause-kept c =
    kept_both c.args.conts.now.items.items c.move_all.new.conts.items.items c.close.new.conts.items.items
    c.in_ok-move_all.ensures.kept
    (kept_both c.move_all.new.conts.items.items c.join_all.new.conts.items.items c.close.new.conts.items.items
    c.in_ok-joined.ensures.kept c.in_ok-ended.ensures.kept)

pub readers-requires-clause-within : goal.readers-requires-clause-within
readers-requires-clause-within c id h =
    let closure = subst (λ v. IfSome v (IsClosure c.args.tables.now c.join_all.new.conts.items.items
    c.join_all.new.ids.items.items c.close.new.conts.items.items c.close.new.ids.items.items)) c.in-Some-2.is
    c.in_ok-ended.ensures.closure in
    closure.within id (subst (λ v. Contains v id) c.deref-6.ensures.value h)

pub readers-requires-clause-older : goal.readers-requires-clause-older
readers-requires-clause-older c =
    c.in_ok-ended.ensures.kept.older (c.in_ok-joined.ensures.kept.older
    (c.in_ok-move_all.ensures.kept.older c.requires.older))

pub returns-clause-kept : goal.returns-clause-kept
returns-clause-kept c =
    kept_both c.args.conts.now.items.items c.move_all.new.conts.items.items c.close.new.conts.items.items
    c.in_ok-move_all.ensures.kept
    (kept_both c.move_all.new.conts.items.items c.join_all.new.conts.items.items c.close.new.conts.items.items
    c.in_ok-joined.ensures.kept c.in_ok-ended.ensures.kept)

pub returns-clause-is : goal.returns-clause-is
returns-clause-is c =
    let closure = subst (λ v. IfSome v (IsClosure c.args.tables.now c.join_all.new.conts.items.items
    c.join_all.new.ids.items.items c.close.new.conts.items.items c.close.new.ids.items.items)) c.in-Some-2.is
    c.in_ok-ended.ensures.closure in
    let are = subst (λ v. IfSome v (λ joined. AreJoinedTops c.move_all.new.conts.items.items c.deref-4.result.now
    c.deref-5.result.now c.join_all.new.conts.items.items c.join_all.new.ids.items.items joined.items)) c.in-Some.is
    c.in_ok-joined.ensures.joined in
    is_cut_off c.args.tables.now c.args.conts.now.items.items c.move_all.new.conts.items.items
    c.join_all.new.conts.items.items c.close.new.conts.items.items c.in_ok-move_all.ensures.kept
    c.in_ok-joined.ensures.kept c.in_ok-ended.ensures.kept c.requires.older c.move_all.new.ids.items
    c.args.found.now.suffixes.items c.join_all.new.ids.items.items c.in-Some.joined.items
    c.close.new.ids.items.items c.in_ok-below.below.items c.in-Some-2.ended
    (moved_within c.args.conts.now.items.items c.move_all.new.conts.items.items c.deref-2.result.now
    c.args.found.now.suffix 0 c.new-tops.result.items c.move_all.new.ids.items c.new-tops.ensures.items
    (c.in_ok-move_all.ensures.moved c.if-not-branch.false))
    (λ id h. c.are_full-else-not-are_full.ensures c.if-not-are_full-2.false id
    (subst (λ v. Contains v id) (sym c.deref-else-not-are_full.ensures.value) h))
    (λ id h. c.all_read.ensures c.if-not-all_read.false id
    (subst (λ v. Contains v id) (sym c.deref-3.ensures.value) h))
    (subst (λ v. AreJoinedTops c.move_all.new.conts.items.items v c.args.found.now.suffixes.items
    c.join_all.new.conts.items.items c.join_all.new.ids.items.items c.in-Some.joined.items) c.deref-4.ensures.value
    (subst (λ v. AreJoinedTops c.move_all.new.conts.items.items c.deref-4.result.now v c.join_all.new.conts.items.items
    c.join_all.new.ids.items.items c.in-Some.joined.items) c.deref-5.ensures.value are))
    closure
    (subst (λ v. AreReaders c.args.tables.now c.close.new.conts.items.items v c.in_ok-below.below.items)
    c.deref-6.ensures.value c.in_ok-below.ensures)
