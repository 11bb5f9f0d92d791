use Rattle.abnfexplain.proofs.AbnfAllFaultLemmas.{all-one}
use Rattle.abnfexplain.proofs.laws.one_explanation_of_abnf_faults.Goals as goal

pub returns : goal.returns
returns c = all-one
