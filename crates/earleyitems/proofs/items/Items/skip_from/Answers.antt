use Rattle.std.proofs.Common.{subst}
use Rattle.earleyitems.specs.Waiting.{IsSkippedTo}
use Rattle.earleyitems.proofs.ListAllLemmas.{skipped_start}
use Rattle.earleyitems.proofs.items.Items.skip_from.Goals as goal

pub returns-then-first-eq0-clause-skipped : goal.returns-then-first-eq0-clause-skipped
returns-then-first-eq0-clause-skipped c es chain =
    subst (λ n. IsSkippedTo c.args.waiters.now n es c.args.self.now.items) c.if-first-eq0.true
    (skipped_start c.args.waiters.now c.args.first es c.args.self.now.items chain)
