use Rattle.gramcheck.proofs.LongerInputLemmas.{gives_longer}
use Rattle.gramcheck.proofs.laws.longer_input.Goals as goal

pub returns : goal.returns
returns c = λ rules x y e p k o lt less d. gives_longer rules x y d lt less
