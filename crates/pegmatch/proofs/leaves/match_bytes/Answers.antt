use Rattle.std.proofs.Common.{arith}
use Rattle.std.proofs.lemmas.Grind.{common_steps}
use Rattle.pegmatch.proofs.MatchStepLemmas.{bytes_found, bytes_missing}
use Rattle.pegmatch.proofs.leaves.match_bytes.Goals as goal

pub returns-then-comparison-clause-value : goal.returns-then-comparison-clause-value
returns-then-comparison-clause-value c = λ rules.
    bytes_found rules _ _ _ _ _ _ _ (grind (arith, common_steps)) c.compare-comparison.ensures.begins
    c.if-comparison.true c.compare-comparison.ensures.compared c.looked_after-looked.ensures

pub returns-else-comparison-clause-value : goal.returns-else-comparison-clause-value
returns-else-comparison-clause-value c = λ rules.
    bytes_missing rules _ _ _ _ _ _ _ (grind (arith, common_steps)) c.compare-comparison.ensures.begins
    c.if-comparison.false c.compare-comparison.ensures.compared c.looked_after-looked.ensures
