use Rattle.std.proofs.Common.{◌∙◌, None, get_or, sym, subst}
use Rattle.pegnodes.specs.Nodes.{shapes_of}
use Rattle.pegnodes.specs.Predictive.{AreVerdicts}
use Rattle.pegnodes.proofs.ForesightLemmas.{row_written}
use Rattle.pegnodes.proofs.foresight.verdicts.Goals as goal

pub returns-then-not-set_verdicts-clause-decided : goal.returns-then-not-set_verdicts-clause-decided
returns-then-not-set_verdicts-clause-decided c = λ d like.
    subst (λ row. AreVerdicts (shapes_of c.args.nodes.now) c.args.bodies.now d (λ m. get_or row m None))
    (sym (row_written c.loop.row.len c.set_verdicts.new.row _ (c.set_verdicts.ensures.count ∙ c.deref_mut.ensures.len)))
    (c.set_verdicts.ensures.decided c.if-not-set_verdicts.true d like)
