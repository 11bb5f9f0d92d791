use Rattle.pegrun.proofs.StatesLemmas.{statement_is_one, long_is_reported}
use Rattle.pegrun.proofs.laws.one_statement.Goals as goal

pub returns-clause-definitions : goal.returns-clause-definitions
returns-clause-definitions c = c.one_reading.ensures.definitions

pub returns-clause-no_fault : goal.returns-clause-no_fault
returns-clause-no_fault c = c.one_reading.ensures.no_fault

pub returns-clause-one_fault : goal.returns-clause-one_fault
returns-clause-one_fault c = c.one_reading.ensures.one_fault

pub returns-clause-whole : goal.returns-clause-whole
returns-clause-whole c =
    statement_is_one c.one_explanation.ensures c.one_note_explanation.ensures c.one_text_of_hints.ensures

pub returns-clause-long : goal.returns-clause-long
returns-clause-long c = long_is_reported
