use Rattle.gramcheck.proofs.RiseLemmas.{gives_within}
use Rattle.gramcheck.proofs.laws.events_rise.Goals as goal

pub returns : goal.returns
returns c = λ rules x e p q k events le d. gives_within rules x d le
