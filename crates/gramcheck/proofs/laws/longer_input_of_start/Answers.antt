use Rattle.gramcheck.proofs.StartRuleLemmas.{grows_of_start}
use Rattle.gramcheck.proofs.laws.longer_input_of_start.Goals as goal

pub returns : goal.returns
returns c = grows_of_start
