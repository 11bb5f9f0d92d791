use Rattle.abnfexplain.proofs.AbnfWhyLemmas.{one-explanation}
use Rattle.abnfexplain.proofs.laws.one_explanation_of_abnf.Goals as goal

pub returns : goal.returns
returns c = one-explanation
