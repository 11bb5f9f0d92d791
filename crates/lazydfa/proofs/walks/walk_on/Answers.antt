use Rattle.std.proofs.Common.{inl, inr, refl, subst, arith}
use Rattle.lazydfa.specs.Conts.{EndsAlone}
use Rattle.lazydfa.proofs.ContsLemmas.{walks_call, walks_end, walks_nowhere, ends_not, ends_so, stack_none, some_stack}
use Rattle.lazydfa.proofs.ContsLemmas.{kept_within, kept_stack, not_true, not_false}
use Rattle.lazydfa.proofs.walks.walk_on.Goals as goal

pub returns-then-id-eq0-clause-adds : goal.returns-then-id-eq0-clause-adds
returns-then-id-eq0-clause-adds c =
    walks_nowhere c.args.tables.now c.args.conts.now.items.items _ _
    (stack_none c.args.conts.now.items.items c.args.id c.if-id-eq0.true)

pub returns-then-id-eq0-clause-ended : goal.returns-then-id-eq0-clause-ended
returns-then-id-eq0-clause-ended c = (
  λ t. absurd (cc t),
  λ e. absurd
      (subst (λ v. EndsAlone c.args.tables.now v) (stack_none c.args.conts.now.items.items c.args.id
      c.if-id-eq0.true) e),
)

pub returns-then-not-operation-clause-adds : goal.returns-then-not-operation-clause-adds
returns-then-not-operation-clause-adds c =
    walks_call c.args.tables.now c.cont_at-cont.result.node c.cont_at-cont.result.step _ _ c.cont_at-cont.ensures.is
    _ _ _
    (inl (not_true _ _ c.if-not-operation.true c.operation_of-operation.ensures.done)) c.in_ok-call_into.ensures.adds

pub returns-then-not-operation-clause-ended : goal.returns-then-not-operation-clause-ended
returns-then-not-operation-clause-ended c = (
  λ t. absurd (cc t),
  λ e. absurd (ends_not c.args.tables.now c.cont_at-cont.result.node c.cont_at-cont.result.step _ _
      c.cont_at-cont.ensures.is (inl (not_true _ _ c.if-not-operation.true c.operation_of-operation.ensures.done)) e),
)

pub returns-then-cont-eq0-clause-adds : goal.returns-then-cont-eq0-clause-adds
returns-then-cont-eq0-clause-adds c =
    walks_call c.args.tables.now c.cont_at-cont.result.node c.cont_at-cont.result.step _ _ c.cont_at-cont.ensures.is
    _ _ _
    (inr (stack_none c.args.conts.now.items.items c.cont_at-cont.result.next c.if-cont-eq0.true))
    c.in_ok-call_into.ensures.adds

pub returns-then-cont-eq0-clause-ended : goal.returns-then-cont-eq0-clause-ended
returns-then-cont-eq0-clause-ended c = (
  λ t. ends_so c.args.tables.now c.cont_at-cont.result.node c.cont_at-cont.result.step _ _ c.cont_at-cont.ensures.is
      (not_false _ _ c.if-not-operation.false c.operation_of-operation.ensures.done)
      (stack_none c.args.conts.now.items.items c.cont_at-cont.result.next c.if-cont-eq0.true),
  λ e. refl,
)

pub returns-clause-adds : goal.returns-clause-adds
returns-clause-adds c =
    walks_end c.args.tables.now c.cont_at-cont.result.node c.cont_at-cont.result.step _ _ c.cont_at-cont.ensures.is
    _ _ _ _ c.cont_at-cont.result.next (not_false _ _ c.if-not-operation.false c.operation_of-operation.ensures.done)
    (some_stack c.args.conts.now.items.items c.cont_at-cont.result.next c.requires.older
    (let some = c.if-cont-eq0.false in omega (arith, some)) c.cont_at-cont.ensures.next)
    (kept_within _ _ c.in_ok-call_into.ensures.kept c.cont_at-cont.result.next c.cont_at-cont.ensures.next)
    (kept_stack _ _ c.in_ok-call_into.ensures.kept c.cont_at-cont.result.next c.cont_at-cont.ensures.next)
    c.in_ok-call_into.ensures.adds c.in_ok-add.ensures

pub returns-clause-ended : goal.returns-clause-ended
returns-clause-ended c = (
  λ t. absurd (cc t),
  λ e. absurd (ends_not c.args.tables.now c.cont_at-cont.result.node c.cont_at-cont.result.step _ _
      c.cont_at-cont.ensures.is (inr (some_stack c.args.conts.now.items.items c.cont_at-cont.result.next
      c.requires.older
      (let some = c.if-cont-eq0.false in omega (arith, some)) c.cont_at-cont.ensures.next)) e),
)
