use Rattle.gramcheck.proofs.ShorterInputLemmas.{gives_shorter}
use Rattle.gramcheck.proofs.laws.shorter_input.Goals as goal

pub returns : goal.returns
returns c = λ rules x y e p k o less d. gives_shorter rules x y d less
