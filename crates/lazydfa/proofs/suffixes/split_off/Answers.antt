use Rattle.std.proofs.Common.{subst, sym}
use Rattle.std.specs.Prelude.{Contains}
use Rattle.lazydfa.specs.Spines.{AreMoved}
use Rattle.lazydfa.proofs.IsSplitOffLemmas.{is_split_off, moved_within}
use Rattle.lazydfa.proofs.suffixes.split_off.Goals as goal

pub move_all-requires-clause-within : goal.move_all-requires-clause-within
move_all-requires-clause-within c id h =
    c.requires.within id (subst (λ v. Contains v id) c.deref-2.ensures.value h)

pub all_read-requires-clause-within : goal.all_read-requires-clause-within
all_read-requires-clause-within c id h =
    moved_within c.args.conts.now.items.items c.move_all.new.conts.items.items c.deref-2.result.now
    c.common_suffix-suffix.result 0 c.new-tops.result.items c.move_all.new.ids.items c.new-tops.ensures.items
    (c.in_ok-move_all.ensures.moved c.if-not-branch.false) id
    (subst (λ v. Contains v id) c.deref-3.ensures.value h)

pub returns-clause-is : goal.returns-clause-is
returns-clause-is c =
    let may = c.may_split.ensures c.if-not-may_split.false in
    is_split_off c.args.tables.now c.args.conts.now.items.items c.move_all.new.conts.items.items
    c.in_ok-move_all.ensures.kept c.requires.older c.args.closure.now.tops.items c.move_all.new.ids.items
    c.common_suffix-suffix.result c.requires.within may.1 may.2 c.new-tops.result.items c.new-tops.ensures.items
    (subst (λ v. AreMoved c.args.conts.now.items.items v c.common_suffix-suffix.result c.move_all.new.conts.items.items
    c.new-tops.result.items c.move_all.new.ids.items 0) c.deref-2.ensures.value
    (c.in_ok-move_all.ensures.moved c.if-not-branch.false))
    (λ id h. c.all_read.ensures c.if-not-all_read.false id
    (subst (λ v. Contains v id) (sym c.deref-3.ensures.value) h))
