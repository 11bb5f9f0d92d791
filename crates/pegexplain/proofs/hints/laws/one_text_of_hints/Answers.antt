use Rattle.pegexplain.proofs.PegHintsLemmas.{hints-one}
use Rattle.pegexplain.proofs.hints.laws.one_text_of_hints.Goals as goal

pub returns : goal.returns
returns c = hints-one c.one_list.ensures c.one_reading.ensures.definitions
