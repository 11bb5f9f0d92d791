use Rattle.gramcheck.proofs.OneOutcomeLemmas.{gives_same}
use Rattle.gramcheck.proofs.laws.one_outcome.Goals as goal

pub returns : goal.returns
returns c = λ rules x e p k j o v d g. let h = gives_same rules x d g in (h.outcome, h.looked)
