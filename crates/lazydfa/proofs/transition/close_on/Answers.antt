use Rattle.std.proofs.Common.{subst}
use Rattle.std.specs.Prelude.{Contains, IfSome}
use Rattle.lazydfa.specs.Conts.{IsClosure, AreReaders}
use Rattle.lazydfa.proofs.KernelsLemmas.{closed_tops}
use Rattle.lazydfa.proofs.transition.close_on.Goals as goal

pub readers-requires-clause-within : goal.readers-requires-clause-within
readers-requires-clause-within c id h =
    let closure = subst (λ v. IfSome v (IsClosure c.args.tables.now c.args.conts.now.items.items
    c.args.ids.now.items.items c.close.new.conts.items.items c.close.new.ids.items.items)) c.in-Some.is
    c.in_ok-ended.ensures.closure in
    closure.within id (subst (λ v. Contains v id) c.deref.ensures.value h)

pub returns-clause-is : goal.returns-clause-is
returns-clause-is c =
    let closure = subst (λ v. IfSome v (IsClosure c.args.tables.now c.args.conts.now.items.items
    c.args.ids.now.items.items c.close.new.conts.items.items c.close.new.ids.items.items)) c.in-Some.is
    c.in_ok-ended.ensures.closure in
    closed_tops c.args.tables.now c.args.conts.now.items.items c.args.ids.now.items.items _ _ _ _ closure
    (subst (λ v. AreReaders c.args.tables.now c.close.new.conts.items.items v c.in_ok-tops.tops.items)
    c.deref.ensures.value c.in_ok-tops.ensures)
