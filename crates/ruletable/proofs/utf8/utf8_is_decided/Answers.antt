use Rattle.ruletable.proofs.SpellsLemmas.{spells_one, text_or_not}
use Rattle.ruletable.proofs.utf8.utf8_is_decided.Goals as goal

pub returns-clause-decided : goal.returns-clause-decided
returns-clause-decided c = text_or_not

pub returns-clause-one : goal.returns-clause-one
returns-clause-one c = spells_one
