-- One line is answered.
use Rattle.abnfrun.proofs.OpenAbnfLemmas.{open_states}
use Rattle.abnfrun.proofs.open_law.answers_as_a_run.Goals as goal

pub returns : goal.returns
returns c = open_states
