use Rattle.std.proofs.Common.{subst}
use Rattle.std.specs.Prelude.{Contains}
use Rattle.lazydfa.specs.Domination.{IsPruned}
use Rattle.lazydfa.proofs.IsPrunedLemmas.{pruned_self, pruned_both}
use Rattle.lazydfa.proofs.prune.prune.Goals as goal

pub returns-then-not-counts-clause-kept : goal.returns-then-not-counts-clause-kept
returns-then-not-counts-clause-kept c =
    pruned_self c.args.tables.now c.args.conts.now.items.items c.args.closure.tops.items

pub undominated-requires-clause-within : goal.undominated-requires-clause-within
undominated-requires-clause-within c = λ id h.
    c.requires.within id (subst (λ v. Contains v id) c.deref.ensures.value h)

pub undominated-requires-2-clause-within : goal.undominated-requires-2-clause-within
undominated-requires-2-clause-within c = λ id h.
    c.requires.within id
    (subst (λ v. Contains v id) c.deref.ensures.value
    (c.in_ok-reversed.ensures.only id (subst (λ v. Contains v id) c.deref-2.ensures.value h)))

pub returns-clause-kept : goal.returns-clause-kept
returns-clause-kept c =
    pruned_both c.args.tables.now c.args.conts.now.items.items c.args.closure.tops.items
    c.in_ok-reversed.reversed.items c.in_ok-tops.tops.items
    (subst (λ v. IsPruned c.args.tables.now c.args.conts.now.items.items v c.in_ok-reversed.reversed.items)
    c.deref.ensures.value c.in_ok-reversed.ensures)
    (subst (λ v. IsPruned c.args.tables.now c.args.conts.now.items.items v c.in_ok-tops.tops.items)
    c.deref-2.ensures.value c.in_ok-tops.ensures)
