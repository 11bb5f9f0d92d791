use Rattle.gramcheck.proofs.StartRuleLemmas.{rises_of_start}
use Rattle.gramcheck.proofs.laws.events_rise_of_start.Goals as goal

pub returns : goal.returns
returns c = rises_of_start
