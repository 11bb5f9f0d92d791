use Rattle.gramcheck.proofs.StartRuleLemmas.{shrinks_of_start}
use Rattle.gramcheck.proofs.laws.shorter_input_of_start.Goals as goal

pub returns : goal.returns
returns c = shrinks_of_start
