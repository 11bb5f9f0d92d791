use Rattle.std.proofs.Common.{subst}
use Rattle.flatgrammar.specs.NodeSteps.{flat_of}
use Rattle.flatgrammar.specs.Stacks.{AreUncounted}
use Rattle.lazydfa.specs.RunVerdicts.{IsOne}
use Rattle.flatgrammar.specs.ClassBounds.{AreClasses}
use Rattle.lazydfa.proofs.AreTransitionsLemmas.{memo_none}
use Rattle.lazydfa.proofs.automaton.Automaton.with_room.Goals as goal

pub invariant_of-result : goal.invariant_of-result
invariant_of-result c = (
  c.in_ok-tables.ensures.exact.targets,
  subst (λ v. AreUncounted (flat_of v)) c.deref.ensures (c.are_uncounted.ensures c.if-not-are_uncounted.false),
  subst (λ v. IsOne (flat_of v)) c.deref-2.ensures (c.is_one.ensures c.if-not-is_one.false),
  subst (λ v. AreClasses (flat_of v) c.in_ok-classes.classes.low c.in_ok-classes.classes.samples.items)
      c.deref-3.ensures c.in_ok-classes.ensures,
  memo_none c.in_ok-tables.tables.value c.in_ok-classes.classes.samples.items c.empty_memo-memo.result
      c.empty_memo-memo.ensures.conts c.empty_memo-memo.ensures.states c.empty_memo-memo.ensures.cells
      c.empty_memo-memo.ensures.transitions c.empty_memo-memo.ensures.resumes c.empty_memo-memo.ensures.leads,
  c.in_ok-tables.ensures.exact.nulls,
)
