use Rattle.pegexplain.proofs.NamesInLemmas.{tree-reported}
use Rattle.pegexplain.proofs.laws.no_name_left_out.Goals as goal

pub returns : goal.returns
returns c = tree-reported
