use Rattle.pegprint.proofs.PegAllFaultLemmas.{all-one}
use Rattle.pegprint.proofs.faults.laws.one_explanation.Goals as goal

pub returns : goal.returns
returns c = all-one
