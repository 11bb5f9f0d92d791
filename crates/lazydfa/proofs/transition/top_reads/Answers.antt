use Rattle.std.proofs.Common.{subst}
use Rattle.lazydfa.specs.Conts.{TopReads}
use Rattle.lazydfa.proofs.ContsLemmas.{stack_none}
use Rattle.lazydfa.proofs.transition.top_reads.Goals as goal

pub returns-then-id-eq0 : goal.returns-then-id-eq0
returns-then-id-eq0 c = (
  λ t. absurd (cc t),
  λ e. absurd (subst (λ v. TopReads c.args.tables.now v)
      (stack_none c.args.conts.now.items.items c.args.id c.if-id-eq0.true) e),
)
