use Rattle.packrat.proofs.RunIterationsLemmas.{fresh_above}
use Rattle.packrat.proofs.byte_laws.fresh_above_mark.Goals as goal

pub returns : goal.returns
returns c = fresh_above
