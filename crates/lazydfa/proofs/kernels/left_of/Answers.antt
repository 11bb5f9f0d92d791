use Rattle.std.proofs.Common.{arith, inr, sym, ◌∙◌}
use Rattle.flatgrammar.specs.Flat.{at}
use Rattle.lazydfa.proofs.ContsLemmas.{some_stack}
use Rattle.lazydfa.proofs.kernels.left_of.Goals as goal

pub returns-clause-is : goal.returns-clause-is
returns-clause-is c = inr (
  at c.cont_at-cont.result.node c.cont_at-cont.result.step,
  c.cont_at-cont.ensures.is,
  sym c.is_last.ensures ∙ c.if-not-is_last.false,
  some_stack c.args.conts.now.items.items c.cont_at-cont.result.next c.requires.older
      (let some = c.if-cont-eq0.false in omega (arith, some)) c.cont_at-cont.ensures.next,
)
