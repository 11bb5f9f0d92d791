use Rattle.gramcheck.proofs.StartRuleLemmas.{same_of_start}
use Rattle.gramcheck.proofs.laws.one_outcome_of_start.Goals as goal

pub returns : goal.returns
returns c = λ rules start x k j o v d g. let h = same_of_start rules start x k j o v d g in (h.outcome, h.looked)
