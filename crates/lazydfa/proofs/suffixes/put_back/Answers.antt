use Rattle.std.proofs.Common.{subst}
use Rattle.std.specs.Prelude.{Contains, IfSome}
use Rattle.lazydfa.specs.Conts.{IsClosure, AreReaders}
use Rattle.lazydfa.proofs.ContsLemmas.{kept_both, kept_within}
use Rattle.lazydfa.proofs.PutsBackLemmas.{added_within, puts_back}
use Rattle.lazydfa.proofs.suffixes.put_back.Goals as goal

pub close-requires-clause-within : goal.close-requires-clause-within
close-requires-clause-within c =
    added_within c.empty.new.ids.items.items c.add.new.ids.items.items c.args.suffix c.args.conts.now.items.items
    c.empty.ensures c.requires.suffix c.in_ok-add.ensures

pub readers-requires-clause-within : goal.readers-requires-clause-within
readers-requires-clause-within c id h =
    let closure = subst (λ v. IfSome v (IsClosure c.args.tables.now c.args.conts.now.items.items
    c.add.new.ids.items.items c.close.new.conts.items.items c.close.new.ids.items.items)) c.in-Some.is
    c.in_ok-ended.ensures.closure in
    closure.within id (subst (λ v. Contains v id) c.deref.ensures.value h)

pub move_all-requires-clause-within : goal.move_all-requires-clause-within
move_all-requires-clause-within c id h =
    kept_within c.args.conts.now.items.items c.close.new.conts.items.items c.in_ok-ended.ensures.kept id
    (c.requires.within id h)

pub returns-then-not-branch-clause-kept : goal.returns-then-not-branch-clause-kept
returns-then-not-branch-clause-kept c =
    kept_both c.args.conts.now.items.items c.close.new.conts.items.items c.move_all.new.conts.items.items
    c.in_ok-ended.ensures.kept c.in_ok-move_all.ensures.kept

pub returns-clause-kept : goal.returns-clause-kept
returns-clause-kept c =
    kept_both c.args.conts.now.items.items c.close.new.conts.items.items c.move_all.new.conts.items.items
    c.in_ok-ended.ensures.kept c.in_ok-move_all.ensures.kept

pub returns-clause-is : goal.returns-clause-is
returns-clause-is c =
    let closure = subst (λ v. IfSome v (IsClosure c.args.tables.now c.args.conts.now.items.items
    c.add.new.ids.items.items c.close.new.conts.items.items c.close.new.ids.items.items)) c.in-Some.is
    c.in_ok-ended.ensures.closure in
    puts_back c.args.tables.now c.args.conts.now.items.items c.close.new.conts.items.items
    c.move_all.new.conts.items.items c.in_ok-ended.ensures.kept c.in_ok-move_all.ensures.kept c.args.tops.now
    c.add.new.ids.items.items c.close.new.ids.items.items c.in_ok-next.next.items c.move_all.new.ids.items
    c.args.suffix c.in-Some.ended c.requires.within c.requires.suffix c.empty.new.ids.items.items c.empty.ensures
    c.in_ok-add.ensures closure
    (subst (λ v. AreReaders c.args.tables.now c.close.new.conts.items.items v c.in_ok-next.next.items)
    c.deref.ensures.value c.in_ok-next.ensures) (c.in_ok-move_all.ensures.moved c.if-not-branch.false)
