use Rattle.abnfexplain.proofs.ReportsFormsLemmas.{forms-reported}
use Rattle.abnfexplain.proofs.laws.nothing_left_out_of_abnf.Goals as goal

pub returns : goal.returns
returns c = forms-reported
