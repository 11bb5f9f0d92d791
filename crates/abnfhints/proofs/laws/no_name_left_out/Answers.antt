use Rattle.abnfhints.proofs.AbnfNamesInLemmas.{tree-reported}
use Rattle.abnfhints.proofs.laws.no_name_left_out.Goals as goal

pub returns : goal.returns
returns c = tree-reported
