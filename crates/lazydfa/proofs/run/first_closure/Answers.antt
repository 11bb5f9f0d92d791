use Rattle.std.proofs.Common.{refl, subst, sym, ◌∙◌}
use Rattle.std.specs.Prelude.{Contains, IfSome}
use Rattle.lazydfa.specs.Conts.{IsClosure, AreReaders, stack_of}
use Rattle.lazydfa.proofs.ContsLemmas.{kept_both, stack_none}
use Rattle.lazydfa.proofs.IsAtLemmas.{begun_within, is_start}
use Rattle.lazydfa.proofs.run.first_closure.Goals as goal

pub close-requires-clause-within : goal.close-requires-clause-within
close-requires-clause-within c =
    begun_within c.args.tables.now c.in-Some.target c.enter.new.conts.items.items c.empty.new.ids.items.items
    c.enter.new.ids.items.items (stack_of c.args.conts.now.items.items 0) c.empty.ensures
    c.in_ok-enter.ensures.adds

pub readers-requires-clause-within : goal.readers-requires-clause-within
readers-requires-clause-within c id h =
    let closure = subst (λ v. IfSome v (IsClosure c.args.tables.now c.enter.new.conts.items.items
    c.enter.new.ids.items.items c.close.new.conts.items.items c.close.new.ids.items.items)) c.in-Some-2.is
    c.in_ok-ended.ensures.closure in
    closure.within id (subst (λ v. Contains v id) c.deref.ensures.value h)

pub returns-clause-kept : goal.returns-clause-kept
returns-clause-kept c = kept_both _ _ _ c.in_ok-enter.ensures.kept c.in_ok-ended.ensures.kept

pub returns-clause-is : goal.returns-clause-is
returns-clause-is c =
    let closure = subst (λ v. IfSome v (IsClosure c.args.tables.now c.enter.new.conts.items.items
    c.enter.new.ids.items.items c.close.new.conts.items.items c.close.new.ids.items.items)) c.in-Some-2.is
    c.in_ok-ended.ensures.closure in
    is_start c.args.tables.now c.in-Some.target c.enter.new.conts.items.items c.close.new.conts.items.items
    c.empty.new.ids.items.items c.enter.new.ids.items.items c.close.new.ids.items.items c.in_ok-tops.tops.items
    c.in-Some-2.ended
    (sym c.start_target.ensures ∙ c.in-Some.is) (stack_of c.args.conts.now.items.items 0)
    (stack_none c.args.conts.now.items.items 0 refl) c.empty.ensures c.in_ok-enter.ensures.adds closure
    (subst (λ v. AreReaders c.args.tables.now c.close.new.conts.items.items v c.in_ok-tops.tops.items)
    c.deref.ensures.value c.in_ok-tops.ensures)
