-- The grammar's rules are those of the text.
use Rattle.pegrun.proofs.OpenPegLemmas.{open_peg_states}
use Rattle.pegrun.proofs.open_law.runs_as_a_run.Goals as goal

pub returns : goal.returns
returns c = open_peg_states
