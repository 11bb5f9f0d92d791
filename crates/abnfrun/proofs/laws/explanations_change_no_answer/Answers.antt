use Rattle.abnfrun.proofs.AbnfExplainedByLemmas.{no_answer_changes}
use Rattle.abnfrun.proofs.laws.explanations_change_no_answer.Goals as goal

pub returns : goal.returns
returns c = no_answer_changes c.utf8_is_decided.ensures.one c.furthest_is_found.ensures.one
