use Rattle.pegrun.proofs.ExplainedByLemmas.{no_answer_changes}
use Rattle.pegrun.proofs.laws.explanations_change_no_answer.Goals as goal

pub returns : goal.returns
returns c = no_answer_changes
