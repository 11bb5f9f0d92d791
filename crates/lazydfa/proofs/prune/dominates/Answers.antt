use Rattle.std.proofs.Common.{subst}
use Rattle.flatgrammar.specs.NodeSteps.{flat_of}
use Rattle.lazydfa.specs.Conts.{stack_of}
use Rattle.lazydfa.specs.Domination.{Dominates}
use Rattle.lazydfa.proofs.DominatesLemmas.{dominates_self}
use Rattle.lazydfa.proofs.IsPrunedLemmas.{ahead_below}
use Rattle.lazydfa.proofs.prune.dominates.Goals as goal

pub returns-then-id-other : goal.returns-then-id-other
returns-then-id-other c = λ _.
    c.loop.invariant.2
    (subst (λ v. Dominates (flat_of c.args.tables.now) (stack_of c.args.conts.now.items.items c.loop.id)
    (stack_of c.args.conts.now.items.items v)) c.if-id-other.true
    (dominates_self (flat_of c.args.tables.now) (stack_of c.args.conts.now.items.items c.loop.id)))

pub loop-preserved : goal.loop-preserved
loop-preserved c = (
  c.cont_at-cont.ensures.next,
  c.cont_at-below.ensures.next,
  λ h. c.loop.invariant.2
      (ahead_below c.args.tables.now c.args.conts.now.items.items c.loop.id c.loop.other _ _ _ _
      c.cont_at-cont.ensures.is c.cont_at-below.ensures.is (c.is_ahead.ensures c.if-not-is_ahead.false) h),
)
