use Rattle.std.proofs.Common.{inr, refl, subst}
use Rattle.std.specs.Prelude.{Contains}
use Rattle.lazydfa.proofs.IsPrunedLemmas.{IsUnder}
use Rattle.lazydfa.proofs.prune.take_top.Goals as goal

pub is_dominated-requires-clause-within : goal.is_dominated-requires-clause-within
is_dominated-requires-clause-within c = λ id h.
    c.requires.within id (subst (λ v. Contains v id) c.deref.ensures.value h)

pub returns-then-is_dominated : goal.returns-then-is_dominated
returns-then-is_dominated c = inr (
  refl,
  subst (λ v. IsUnder c.args.tables.now c.args.conts.now.items.items v c.args.top) c.deref.ensures.value
      (c.if-is_dominated.ensures refl),
)
