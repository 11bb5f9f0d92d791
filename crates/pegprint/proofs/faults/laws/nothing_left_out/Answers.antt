use Rattle.pegprint.proofs.ReportsKindsLemmas.{kinds-reported}
use Rattle.pegprint.proofs.faults.laws.nothing_left_out.Goals as goal

pub returns : goal.returns
returns c = kinds-reported
